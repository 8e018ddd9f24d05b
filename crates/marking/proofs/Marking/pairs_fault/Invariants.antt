use Rattle.std.proofs.Common.{Ok}
use Rattle.theory.specs.Marks.{left, at_step}
use Rattle.variants.specs.Kinds.{Countable}
use Rattle.marking.specs.Judgements.{BothReached, FindsBetween}
use Rattle.marking.proofs.Marking.pairs_fault.Given as goal

abbrev pub invariant-loop-s : goal.invariant-loop-s
invariant-loop-s g l =
    Countable g.S.VariantSet → BothReached g.S.VariantSet l.self →
    FindsBetween g.S.VariantSet l.self (at_step left 0 0 0) (at_step left l.s 0 0) (Ok tt)

abbrev pub invariant-loop-t : goal.invariant-loop-t
invariant-loop-t g l =
    Countable g.S.VariantSet → BothReached g.S.VariantSet l.self →
    FindsBetween g.S.VariantSet l.self (at_step left 0 0 0) (at_step left l.s l.t 0) (Ok tt)
