-- What is found at a pair, and from pair to pair.
use Rattle.std.specs.Prelude.{◌≡◌, ℕ, ◌+◌, ◌<◌, List, Some, None, Option, MatchOption, MatchResult}
use Rattle.theory.specs.Sets.{Variants}
use Rattle.theory.specs.Systems as theory
use Rattle.theory.specs.Tables.{Table}
use Rattle.theory.specs.Marks.{Side, left, right, follower, own, other, facing, Spot, at_starts, at_step, fault}
use Rattle.theory.specs.Marks as marks
use Rattle.theory.specs.Reach.{Reaches}
use Rattle.theory.specs.Judgements.{ReachRow, AllFollowed, FirstUnfollowed, Clear}
use Rattle.variants.specs.declared.VariantSet.{Ghosts as Kind}
use Rattle.variants.specs.Kinds.{Countable}
use Rattle.families.specs.declared.parts.Step.{Step}
use Rattle.families.specs.declared.Family.{Family}
use Rattle.families.specs.Drafts.{model}
use Rattle.tables.specs.Cells.{cell, grid}
use Rattle.tables.specs.Tables.{shown}
use Rattle.reaching.specs.Reaches.{reach_of}
use Rattle.following.specs.declared.Position.{Position}
use Rattle.following.specs.Views.{seen, follower_of, Lacks}
use Rattle.marking.specs.declared.judging.Lapse.{Lapse}
use Rattle.marking.specs.declared.Marking.{Marking}
use Rattle.marking.specs.Faults.{Marked, fault_answer, marked_answer}

-- None if every step of xs is followed from the pair of s and t, else the first that is not
abbrev pub Lapsed : theory.Family → Table → ℕ → ℕ → List theory.Step → Option Lapse → Type 0
Lapsed F H s t xs None = AllFollowed F H s t xs
Lapsed F H s t xs (Some l) = FirstUnfollowed F H s t xs l.step l.variant

-- accepted if everything before the spot passes, else the first fault
abbrev pub Found : theory.Family → theory.Family → Variants → Table → Spot → Marked → Type 0
Found L R listed H p r = MatchResult r (λ _. Clear L R listed H p) (λ f. marks.Marked L R listed H (fault_answer f))

-- accepted if the starts pass, else the fault of the start rule at the starts, in the least variant that fails there, and it is the first
abbrev pub StartFound : theory.Family → theory.Family → Variants → Table → Marked → Type 0
StartFound L R listed H r =
    MatchResult r (λ _. Clear L R listed H (at_step left 0 0 0))
    (λ f. (fault_answer f ≡ fault L R listed H at_starts f.variant) × marks.Marked L R listed H (fault L R listed H at_starts f.variant))

-- the spot that follows a side's steps at a pair
abbrev pub after : Side → ℕ → ℕ → Spot
after left s t = at_step right s t 0
after right s t = at_step left s (t + 1) 0

module _ {S : Type 0} (K : Kind S) where
  -- the lapse that the step x at a place is, if it is not followed from the position
  abbrev pub LapsesAt : Position S → ℕ → Step S → Option Lapse → Type 0
  LapsesAt p place x r = MatchOption r (Lacks K p x None) (λ l. (l.step ≡ place) × Lacks K p x (Some l.variant))

  -- the judgement of a mover's steps at a position, if its reach is the follower's from the other state
  abbrev pub JudgesSteps : Position S → Family S → Option Lapse → Type 0
  JudgesSteps p mover r =
      Countable K → p.other < (follower_of K p).states → ReachRow K.variants (follower_of K p) p.other (cell K p.reach.now) →
      Lapsed (follower_of K p) (seen K p.view) p.own p.other (model K mover).steps r

  -- sets in memory as a table of pairs
  abbrev pub pairs_of : Family S → Family S → List S → Table
  pairs_of L R candidate = grid K (model K L).states (model K R).states candidate

  module _ (m : Marking S) where
    abbrev pub left_of : theory.Family
    left_of = model K m.left.now

    abbrev pub right_of : theory.Family
    right_of = model K m.right.now

    -- the candidate as a table of pairs
    abbrev pub candidate_of : Table
    candidate_of = shown K m.candidate

    -- the reach of the family that follows a side
    abbrev pub reach_by : Side → Table
    reach_by left = shown K m.right_reach
    reach_by right = shown K m.left_reach

    -- the families, and the memory as their candidate and their reach
    pub record Reads (L R : Family S) (candidate left_reach right_reach : List S) : Type 0 where
      pub of_left : m.left.now ≡ L
      pub of_right : m.right.now ≡ R
      pub pairs : candidate_of ≡ pairs_of L R candidate
      pub of_left_reach : shown K m.left_reach ≡ reach_of K L left_reach
      pub of_right_reach : shown K m.right_reach ≡ reach_of K R right_reach

    -- where a side stands at the pair of s and t
    pub record Stands (side : Side) (s t : ℕ) (p : Position S) : Type 0 where
      pub sees : seen K p.view ≡ facing side candidate_of
      pub is_own : p.own ≡ own side s t
      pub is_other : p.other ≡ other side s t
      pub follows : follower_of K p ≡ follower side left_of right_of
      pub reaches : (r v : ℕ) → cell K p.reach.now r v ≡ reach_by side (other side s t) r v

    -- the memory holds the reach of both families
    pub record BothReached : Type 0 where
      pub of_left : Reaches K.variants left_of (shown K m.left_reach)
      pub of_right : Reaches K.variants right_of (shown K m.right_reach)

    -- the memory holds the two rows of the pair: the left family's reach from s, and the right family's from t
    pub record RowsReached (s t : ℕ) : Type 0 where
      pub of_left : ReachRow K.variants left_of s (shown K m.left_reach s)
      pub of_right : ReachRow K.variants right_of t (shown K m.right_reach t)

    -- if everything before p passes, what is found up to q
    abbrev pub FindsBetween : Spot → Spot → Marked → Type 0
    FindsBetween p q r = (listed : Variants) → Clear left_of right_of listed candidate_of p → Found left_of right_of listed candidate_of q r

    -- what is found at a side's steps at the pair of s and t, by its two rows
    abbrev pub JudgesSide : Side → ℕ → ℕ → Marked → Type 0
    JudgesSide side s t r =
        Countable K → s < left_of.states → t < right_of.states → RowsReached s t → FindsBetween (at_step side s t 0) (after side s t) r

    -- what is found at the pair, by its two rows
    abbrev pub JudgesPair : ℕ → ℕ → Marked → Type 0
    JudgesPair s t r =
        Countable K → s < left_of.states → t < right_of.states → RowsReached s t → FindsBetween (at_step left s t 0) (at_step left s (t + 1) 0) r

    -- what is found at all pairs, by both reaches
    abbrev pub JudgesPairs : Marked → Type 0
    JudgesPairs r = Countable K → BothReached → FindsBetween (at_step left 0 0 0) (at_step left left_of.states 0 0) r

    -- what is found at the starts
    abbrev pub JudgesStarts : S → Marked → Type 0
    JudgesStarts list r = Countable K → StartFound left_of right_of (K.holds list) candidate_of r

    -- the judgement of the whole candidate
    abbrev pub Judges : S → Marked → Type 0
    Judges list r = Countable K → BothReached → marks.Marked left_of right_of (K.holds list) candidate_of (marked_answer r)
