use Rattle.std.proofs.Common.{Bool, ◌&&◌, ap, ◌∙◌, ap₂}
use Rattle.families.specs.Models.{step_of}
use Rattle.tables.specs.Cells.{cell}
use Rattle.following.specs.Views.{seen, follower_of}
use Rattle.following.proofs.Ways.{silent_way, other_way}
use Rattle.following.proofs.Position.by_way_of.Goals as goal

pub returns-then-step-eq0 : goal.returns-then-step-eq0
returns-then-step-eq0 g c v =
    let K = g.S.VariantSet in
    let p = c.args.self.now in
    let still = K.holds c.both-still.result v in
    c.both.ensures v
    ∙ ap (λ (b : Bool). still && b) (c.either.ensures v)
    ∙ silent_way (follower_of K p) (cell K p.reach.now) (seen K p.view) p.own (step_of K c.args.step) v c.args.r
    _ _ (c.both-still.ensures v ∙ ap₂ (λ (a b : Bool). a && b) (c.nth.ensures v) (c.at.ensures v)) (c.answered-answers.ensures v) c.if-step-eq0.true
    _ (c.at-then-step-eq0.ensures v)

pub returns-else-step-eq0 : goal.returns-else-step-eq0
returns-else-step-eq0 g c v =
    let K = g.S.VariantSet in
    let p = c.args.self.now in
    c.both-else-step-eq0.ensures v
    ∙ other_way (follower_of K p) (cell K p.reach.now) (seen K p.view) p.own (step_of K c.args.step) v c.args.r
    _ _ (c.both-still.ensures v ∙ ap₂ (λ (a b : Bool). a && b) (c.nth.ensures v) (c.at.ensures v)) (c.answered-answers.ensures v) c.if-step-eq0.false
