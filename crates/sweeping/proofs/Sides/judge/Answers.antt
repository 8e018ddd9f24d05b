use Rattle.std.proofs.Common.{sym, rules}
use Rattle.std.specs.Iterator.{YieldsFirst}
use Rattle.std.proofs.lemmas.Fn.{fold_over}
use Rattle.std.proofs.lemmas.Iterator.Consumers.{YieldsList-from_first}
use Rattle.families.specs.Drafts.{model}
use Rattle.tables.specs.Tables.{standing}
use Rattle.sweeping.specs.Judging.{JudgedBy, JudgedFurther, spared_at}
use Rattle.sweeping.proofs.Steps.{kept_by, kept_more, kept_leaving, judged_not, judged_more, judged_same}
use Rattle.sweeping.proofs.Sides.judge.Goals as goal

-- after the steps ps the pair is judged by them, and all steps that leave s judge as all steps
pub returns : goal.returns
returns g c =
    let K = g.S.VariantSet in
    let rs = (model K c.args.self.now.right.now).steps in
    let s = c.args.s in
    let t = c.args.t in
    let T = standing K c.args.table.now in
    let all = fold_over (YieldsFirst (λ rest. rest)) (λ p. p) _ (λ ps a. JudgedBy K (T s t) (λ v. kept_by K rs T s t v ps) a) _
    (λ ps a p b f' so_far k.
    let one : JudgedFurther K a (spared_at K c.args.self.now T s t p.1) b = search rules in
    (judged_same K (T s t) _ _ b (λ v. sym (kept_more K rs T s t v ps p)) (judged_more K (T s t) _ _ a b so_far one), search rules))
    _ _ _ _ (YieldsList-from_first (λ p. p) (λ rest. rest) _ c.steps_from.ensures).runs (search (rules, judged_not)) c.fold.ensures.ran in
    judged_same K (T s t) _ _ c.fold.result (λ v. kept_leaving K rs T s t v _ 0) all
