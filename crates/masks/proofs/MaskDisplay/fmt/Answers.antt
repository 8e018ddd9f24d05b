use Rattle.std.proofs.Common.{rules, ◌≡◌, arith}
use Rattle.std.proofs.Output.{has_written_append}
use Rattle.masks.proofs.MaskDisplay.fmt.Goals as goal

pub returns-clause-writes : goal.returns-clause-writes
returns-clause-writes g c = λ plain ok.
    let all : c.loop-v.v-counter ≡ 64 = omega arith in
    has_written_append _ _ _ _ _ _ (rw all at c.loop-v.invariant.1 plain) (search rules)
