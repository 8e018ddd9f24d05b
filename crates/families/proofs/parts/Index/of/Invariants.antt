use Rattle.std.proofs.Common.{◌≡◌, List, ◌++◌, length}
use Rattle.families.specs.declared.parts.Step.{Step}
use Rattle.families.specs.Places.{Indexes}
use Rattle.families.proofs.Chains.{Sized}
use Rattle.families.proofs.parts.Index.of.Given as goal

-- the steps that are left are the first ones, and the index has those after them
abbrev pub invariant-loop-step : goal.invariant-loop-step
invariant-loop-step g l = record {
  first : (filed : List (Step _)) × (l.steps ≡ l.rest ++ filed);
  index : Indexes l.steps (length l.rest) l.index;
  sized : Sized l.index;
}

abbrev pub decreases-loop-step : goal.decreases-loop-step
decreases-loop-step g l = length l.rest
