use Rattle.std.proofs.Common.{rules}
use Rattle.families.proofs.Lists.{step_here}
use Rattle.families.proofs.making.can_make.Goals as goal

pub returns-then-step-states-clause-answers : goal.returns-then-step-states-clause-answers
returns-then-step-states-clause-answers g c =
    let here = step_here c.args.states c.args.places c.args.steps.now c.loop-held.held c.index-steps-held.result c.loop-held-test.true c.index-steps-held.is in
    search rules
