use Rattle.std.proofs.Common.{◌≡◌, sym, ◌∙◌, rules}
use Rattle.std.specs.Iterator.{YieldsFirst}
use Rattle.std.proofs.lemmas.Fn.{fold_over}
use Rattle.std.proofs.lemmas.Iterator.Consumers.{YieldsList-from_first}
use Rattle.families.specs.Models.{step_of}
use Rattle.answering.specs.Partners.{each_row}
use Rattle.answering.proofs.Steps.{answered_by, answered_more, answered_leaving}
use Rattle.answering.proofs.answered.Goals as goal

-- after the steps ps it is found what they answer, and all steps that leave t answer what all steps answer
pub returns : goal.returns
returns g c v =
    let K = g.S.VariantSet in
    let T = each_row (g.P.Partners.paired c.args.partners.now) in
    let y = step_of K c.args.step in
    fold_over (YieldsFirst (λ rest. rest)) (λ p. p) _ (λ ps a. K.holds a v ≡ answered_by K T c.args.t y v ps) _
    (λ ps a p b f' so_far k. (search rules ∙ sym (answered_more K T c.args.t y v ps p), search rules))
    _ _ _ _ (YieldsList-from_first (λ p. p) (λ rest. rest) _ c.steps_from.ensures).runs (search rules) c.fold.ensures.ran
    ∙ answered_leaving K T c.args.t y v _ 0
