-- A comparison as a moment of the theory.
use Rattle.std.specs.Prelude.{◌≡◌, ℕ, ◌*◌, true, false, List, length, drop, Some, None, Option}
use Rattle.theory.specs.Calls.{Frame, Last, unswept, struck, Moment}
use Rattle.theory.specs.Histories.{frame_of, first_moment}
use Rattle.variants.specs.declared.VariantSet.{Ghosts as Kind}
use Rattle.families.specs.declared.Family.{Family}
use Rattle.families.specs.Drafts.{model}
use Rattle.tables.specs.Tables.{standing, Resembles}
use Rattle.comparing.specs.declared.Comparison.{Comparison}
use Rattle.comparing.specs.declared.Sweeping.{Sweeping}
use Rattle.comparing.specs.declared.Quiet.{Quiet}

-- what the last sweep did
abbrev pub last_of : Option ℕ → Last
last_of None = unswept
last_of (Some k) = struck k

-- a settled comparison
abbrev pub Settled : Type 0 → Type 0
Settled S = Comparison S Quiet

module _ {S : Type 0} (K : Kind S) where
  -- what a comparison keeps from begin, settled or not
  abbrev pub frame : {P : Type 0} → Comparison S P → Frame
  frame c = record { variants = K.variants; left_states = c.table.rows; right_states = c.table.cols; left_start = c.left_start; right_start = c.right_start }

  -- the moment of a comparison that takes sweeps
  abbrev pub moment : Comparison S Sweeping → Moment
  moment c = record { table = standing K c.table; last = last_of c.phase.last; settled = false }

  -- the moment of a settled comparison
  abbrev pub settled_moment : Settled S → Moment
  settled_moment d = record { table = standing K d.table; last = struck 0; settled = true }

-- a comparison of the same frame over the same memory, in which only the sets of its pairs and what the last sweep did may differ
pub record Continues {S : Type 0} (c c' : Comparison S Sweeping) : Type 0 where
  pub table : Resembles c.table c'.table
  pub left_start : c'.left_start ≡ c.left_start
  pub right_start : c'.right_start ≡ c.right_start

-- a new comparison: its frame and its first moment are those of the two families and the list, and later places of the memory are untouched
pub record Begun {S : Type 0} (K : Kind S) (left right : Family S) (list : S) (lent : List S) (c : Comparison S Sweeping) : Type 0 where
  pub begun_frame : frame K c ≡ frame_of K.variants (model K left) (model K right)
  pub begun_moment : moment K c ≡ first_moment (model K left) (model K right) (K.holds list)
  pub size : length c.table.cells.now ≡ length lent
  pub beyond : drop ((model K left).states * (model K right).states) c.table.cells.now ≡ drop ((model K left).states * (model K right).states) lent
