use Rattle.std.proofs.Common.{Bool, ◌&&◌, ap, ◌∙◌}
use Rattle.theory.proofs.Judgements.{judged_elsewhere}
use Rattle.families.specs.Models.{step_of}
use Rattle.following.specs.Views.{seen, follower_of}
use Rattle.following.proofs.Lacks.{judged_least}
use Rattle.following.proofs.Position.lacking.Goals as goal

pub returns-then-step-self : goal.returns-then-step-self
returns-then-step-self g c few inside row =
    let K = g.S.VariantSet in
    let p = c.args.self.now in
    judged_elsewhere (follower_of K p) (seen K p.view) p.own p.other (step_of K c.args.step) c.if-step-self.true

pub returns : goal.returns
returns g c few inside row =
    let K = g.S.VariantSet in
    judged_least K g.met.S.VariantSet.within c.args.self.now c.args.step few inside row
    c.if-step-self.false _ _ _ (λ v. c.both-due.ensures v ∙ ap (λ (b : Bool). b && K.holds c.args.step.set v) (c.at.ensures v))
    c.followed.ensures c.without.ensures c.least.result c.least.ensures
