-- A whole comparison, from begin to the settled table, and what it says of machines.
use Rattle.std.specs.Prelude.{◌≡◌, ℕ, ◌*◌, true, ◌↔◌, List, length, drop}
use Rattle.theory.specs.Tables.{Largest}
use Rattle.theory.specs.Calls.{Moment, Ran, after_settle}
use Rattle.theory.specs.Histories.{frame_of, first_moment, Related, LostInTheEnd}
use Rattle.variants.specs.declared.VariantSet.{Ghosts as Kind}
use Rattle.families.specs.declared.Family.{Family}
use Rattle.families.specs.Drafts.{model}
use Rattle.tables.specs.declared.Table.{Table}
use Rattle.tables.specs.Tables.{standing}
use Rattle.comparing.specs.Moments.{frame, settled_moment}
use Rattle.guarantee.specs.declared.Compared.{Compared}

-- later places of the memory that n × m pairs were lent are untouched
pub record BeyondUntouched {S : Type 0} (n m : ℕ) (lent : List S) (T : Table S) : Type 0 where
  pub size : length T.cells.now ≡ length lent
  pub beyond : drop (n * m) T.cells.now ≡ drop (n * m) lent

-- a comparison that was swept until it settled
pub record Compares {S : Type 0} (K : Kind S) (left right : Family S) (list : S) (lent : List S) (r : Compared S) : Type 0 where
  pub frame : frame K r.settled ≡ frame_of K.variants (model K left) (model K right)
  -- a pair holds a variant exactly if it is listed and a simulation of the variant's machines relates the pair
  pub exact : (s t v : ℕ) → (standing K r.settled.table s t v ≡ true) ↔ ((K.holds list v ≡ true) × Related (model K left) (model K right) v s t)
  -- the table is the largest family simulation
  pub largest : Largest (model K left) (model K right) (K.holds list) (standing K r.settled.table)
  -- the strikes are the listed variants in which no simulation relates a pair with equal labels
  pub losses : LostInTheEnd K.variants (model K left) (model K right) (K.holds list) r.strikes
  -- the sweeps are those of a run that ends after the first that strikes nothing
  pub last : Moment
  pub ran : Ran K.variants (model K left) (model K right) 4294967295 (first_moment (model K left) (model K right) (K.holds list)) r.sweeps r.strikes last
  pub settled : settled_moment K r.settled ≡ after_settle last
  pub memory : BeyondUntouched (model K left).states (model K right).states lent r.settled.table
