use Rattle.histories.proofs.Turns.{SoFar}
use Rattle.histories.proofs.playing.play.Given as goal

abbrev pub invariant-loop-done : goal.invariant-loop-done
invariant-loop-done g l = SoFar g.S.VariantSet l.left l.right l.initial.stage l.initial.turns l.turns l.done l.stage
