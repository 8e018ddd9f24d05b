-- When marking is refused, and what it leaves and answers else.
use Rattle.std.specs.Prelude.{◌≡◌, ℕ, ◌+◌, ◌*◌, ◌<◌, ◌≤◌, true, List, length, take, drop}
use Rattle.theory.specs.Marks.{MarkingIsExact}
use Rattle.theory.specs.Marks as marks
use Rattle.theory.specs.Reach.{Reaches}
use Rattle.variants.specs.declared.VariantSet.{Ghosts as Kind}
use Rattle.variants.specs.Kinds.{Countable}
use Rattle.refusals.specs.declared.Refusal.{Refusal}
use Rattle.refusals.specs.Numbers.{number_of}
use Rattle.families.specs.declared.Family.{Family}
use Rattle.families.specs.Drafts.{model}
use Rattle.tables.specs.Cells.{cell}
use Rattle.reaching.specs.Reaches.{reach_places, reach_of}
use Rattle.marking.specs.Faults.{Marked, marked_answer}
use Rattle.marking.specs.Judgements.{pairs_of}

-- every set in the memory holds listed variants only
abbrev pub OnlyListed : {S : Type 0} → Kind S → S → List S → Type 0
OnlyListed K list cells = (k v : ℕ) → cell K cells k v ≡ true → K.holds list v ≡ true

module _ {S : Type 0} (K : Kind S) (left right : Family S) where
  -- how many pairs of states there are
  abbrev pub pairs : ℕ
  pairs = (model K left).states * (model K right).states

  -- how many places both reaches take
  abbrev pub both_places : ℕ
  both_places = reach_places K left + reach_places K right

  -- the scratch holds the left reach, then the right reach; later places are untouched
  pub record ReachedBoth (before after : List S) : Type 0 where
    pub left_reach : Reaches K.variants (model K left) (reach_of K left after)
    pub right_reach : Reaches K.variants (model K right) (reach_of K right (drop (reach_places K left) after))
    pub size : length after ≡ length before
    pub beyond : drop both_places after ≡ drop both_places before

  module _ (list : S) (candidate : List S) where
    -- what marking takes, with a scratch of so many places
    pub record Markable (scratch : ℕ) : Type 0 where
      pub narrow : Countable K
      pub table : pairs ≤ length candidate
      pub room : both_places ≤ scratch
      pub listed : OnlyListed K list (take pairs candidate)

    -- by which number marking is refused; the first that applies
    pub data Refused (scratch : ℕ) : ℕ → Type 0 where
      kind_too_large : 1024 < K.variants → Refused scratch 6
      table_too_short : Countable K → length candidate < pairs → Refused scratch 7
      scratch_too_short : Countable K → pairs ≤ length candidate → scratch < both_places → Refused scratch 10
      unlisted : Countable K → pairs ≤ length candidate → both_places ≤ scratch → (OnlyListed K list (take pairs candidate) → ⊥) → Refused scratch 11

    -- a marking that is granted: its answer is the theory's, which is exact, and the scratch holds both reaches
    pub record Marks (before after : List S) (m : Marked) : Type 0 where
      pub taken : Markable (length before)
      pub answers : marks.Marked (model K left) (model K right) (K.holds list) (pairs_of K left right candidate) (marked_answer m)
      pub exact : MarkingIsExact (model K left) (model K right) (K.holds list) (pairs_of K left right candidate)
      pub scratch : ReachedBoth before after

    -- a marking that is refused leaves the scratch as it was
    pub record Refuses (before after : List S) (e : Refusal) : Type 0 where
      pub number : Refused (length before) (number_of e)
      pub untouched : after ≡ before
