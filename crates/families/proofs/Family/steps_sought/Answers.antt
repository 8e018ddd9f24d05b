use Rattle.std.proofs.Common.{List, sym, ap, ◌∙◌, arith}
use Rattle.families.specs.declared.parts.Step.{Step}
use Rattle.families.specs.Models.{held_steps}
use Rattle.families.specs.Seeking.{numbered_from}
use Rattle.families.proofs.Walks.{numbered_sought}
use Rattle.families.proofs.Family.steps_sought.Goals as goal

pub returns : goal.returns
returns g c =
    let xs = held_steps c.args.self.now.parts in
    ap (λ (ys : List (Step _)). numbered_from c.args.sought ys c.args.first) c.steps.ensures ∙ ap (numbered_from c.args.sought xs) c.requires ∙ sym (numbered_sought c.args.sought xs 0 (omega arith))
