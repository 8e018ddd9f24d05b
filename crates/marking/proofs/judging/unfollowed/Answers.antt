use Rattle.std.proofs.Common.{refl, rules}
use Rattle.marking.proofs.Steps.{lapsed, none_yet}
use Rattle.marking.proofs.judging.unfollowed.Goals as goal

pub returns : goal.returns
returns g c =
    let K = g.S.VariantSet in
    let p = c.args.position.now in
    let mover = c.args.mover.now in
    lapsed K p mover _ _ c.steps_from-steps.result (none_yet K p mover _ _ refl c.steps_from-steps.ensures)
    (λ x r q k. search rules) _ c.find_map.ensures.runs
