-- The silent reach of a closed family, row by row in memory.
use Rattle.std.specs.Prelude.{◌≡◌, ℕ, ◌*◌, ◌<◌, ◌≤◌, List, length, drop}
use Rattle.theory.specs.Tables.{Table}
use Rattle.theory.specs.Reach.{Reaches, Rounds, reach_begun}
use Rattle.variants.specs.declared.VariantSet.{Ghosts as Kind}
use Rattle.variants.specs.Kinds.{Countable}
use Rattle.refusals.specs.declared.Refusal.{Refusal}
use Rattle.refusals.specs.Numbers.{number_of}
use Rattle.families.specs.declared.Family.{Family}
use Rattle.families.specs.Drafts.{model}
use Rattle.tables.specs.Cells.{grid}

module _ {S : Type 0} (K : Kind S) (family : Family S) where
  -- how many places the reach takes
  abbrev pub reach_places : ℕ
  reach_places = (model K family).states * (model K family).states

  -- the places as the reach of the family, a row for each state that one comes from
  abbrev pub reach_of : List S → Table
  reach_of xs = grid K (model K family).states (model K family).states xs

  -- the memory holds the reach, worked out in r rounds; later places are untouched
  pub record Reached (before after : List S) (r : ℕ) : Type 0 where
    pub room : reach_places ≤ length before
    pub exact : Reaches K.variants (model K family) (reach_of after)
    pub rounds : Countable K → Rounds (model K family).states (model K family).steps (reach_begun K.variants (model K family).states) r (reach_of after)
    pub size : length after ≡ length before
    pub beyond : drop reach_places after ≡ drop reach_places before

  -- refused by 10: there are fewer places than the reach takes; the memory is untouched
  pub record TooShort (before after : List S) (e : Refusal) : Type 0 where
    pub number : number_of e ≡ 10
    pub short : length before < reach_places
    pub untouched : after ≡ before
