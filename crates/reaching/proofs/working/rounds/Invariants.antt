use Rattle.theory.proofs.Reach.{Going, Counted, missing}
use Rattle.variants.specs.Kinds.{Countable}
use Rattle.families.specs.Drafts.{model}
use Rattle.reaching.specs.Working.{Kept, worked}
use Rattle.reaching.proofs.working.rounds.Given as goal

abbrev pub invariant-loop-reaching : goal.invariant-loop-reaching
invariant-loop-reaching g l =
    let K = g.S.VariantSet in
    let F = model K l.family in
    record {
      kept : Kept l.initial.reaching l.reaching;
      going : Going K.variants F (worked K l.reaching);
      counted : Countable K → Counted K.variants F l.made (worked K l.reaching);
    }

abbrev pub decreases-loop-reaching : goal.decreases-loop-reaching
decreases-loop-reaching g l = missing g.S.VariantSet.variants (model g.S.VariantSet l.family).states (worked g.S.VariantSet l.reaching)
