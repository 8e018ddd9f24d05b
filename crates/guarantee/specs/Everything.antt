-- Every promise together.
use Rattle.std.specs.Prelude.{List, MatchResult}
use Rattle.theory.specs.Calls.{CallsHaveOneOutcome}
use Rattle.theory.specs.Histories.{ComparingIsExact}
use Rattle.variants.specs.declared.VariantSet.{Ghosts as Kind}
use Rattle.families.specs.declared.Family.{Family}
use Rattle.families.specs.Drafts.{model}
use Rattle.histories.specs.declared.Turn.{Turn}
use Rattle.marking.specs.Marks.{Marks, Refuses}
use Rattle.guarantee.specs.declared.Examined.{Examined}
use Rattle.guarantee.specs.Steps.{StepsThrough}

-- what holds of two families, a list and a candidate that are examined
pub record EverythingHolds {S : Type 0} (K : Kind S) (left right : Family S) (list : S) (lent : List S) (turns answered : List (Turn S)) (candidate scratch reached : List S) (r : Examined S) : Type 0 where
  -- a call that a comparison takes as it stands has one outcome, refusals included
  pub calls : CallsHaveOneOutcome
  -- a comparison of the two families over the list is exact over any history, and settles
  pub comparing : ComparingIsExact K.variants (model K left) (model K right) (K.holds list)
  -- the requests were carried out on such a comparison: their answers are one of these histories
  pub steps : StepsThrough K left right list lent turns answered r.played
  -- the candidate was marked, and marking is exact, or it was refused
  pub marks : MatchResult r.marked (λ m. Marks K left right list candidate scratch reached m) (λ e. Refuses K left right list candidate scratch reached e)
