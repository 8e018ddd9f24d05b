-- What is read in memory as a candidate and as reach.
use Rattle.std.proofs.Common.{sym, subst, subst₂}
use Rattle.theory.specs.Sets.{Variants}
use Rattle.theory.specs.Tables.{Table}
use Rattle.theory.specs.Answers.{Answer}
use Rattle.theory.specs.Marks as marks
use Rattle.theory.specs.Reach.{Reaches}
use Rattle.variants.specs.declared.VariantSet.{Ghosts as Kind}
use Rattle.families.specs.declared.Family.{Family}
use Rattle.families.specs.Drafts.{model}
use Rattle.reaching.specs.Reaches.{reach_of}
use Rattle.marking.specs.declared.Marking.{Marking}
use Rattle.marking.specs.Judgements.{pairs_of, left_of, right_of, candidate_of, Reads, BothReached}

module _ {S : Type 0} (K : Kind S) (m : Marking S) (L R : Family S) (candidate left_reach right_reach : _) (reads : Reads K m L R candidate left_reach right_reach) where
  pub both_reached : Reaches K.variants (model K L) (reach_of K L left_reach) → Reaches K.variants (model K R) (reach_of K R right_reach) → BothReached K m
  both_reached of_left of_right =
      record {
        of_left = subst₂ (λ (f : Family S) (T : Table). Reaches K.variants (model K f) T) (sym reads.of_left) (sym reads.of_left_reach) of_left;
        of_right = subst₂ (λ (f : Family S) (T : Table). Reaches K.variants (model K f) T) (sym reads.of_right) (sym reads.of_right_reach) of_right;
      }

  pub marked_pairs : (listed : Variants) (a : Answer) → marks.Marked (left_of K m) (right_of K m) listed (candidate_of K m) a →
      marks.Marked (model K L) (model K R) listed (pairs_of K L R candidate) a
  marked_pairs listed a h =
      subst (λ (T : Table). marks.Marked (model K L) (model K R) listed T a) reads.pairs
      (subst₂ (λ (f g : Family S). marks.Marked (model K f) (model K g) listed (candidate_of K m) a) reads.of_left reads.of_right h)
