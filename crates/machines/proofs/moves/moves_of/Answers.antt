use Rattle.std.proofs.Common.{map, ap, ◌∙◌, rules}
use Rattle.std.specs.Iterator.Adapters.{filter_callee}
use Rattle.std.proofs.lemmas.Iterator.{items_from_collect, YieldsList-from_map, YieldsList-from_slice}
use Rattle.std.proofs.lemmas.Iterator.Consumers.{YieldsList-from_filter, YieldsList-from_copied}
use Rattle.std.proofs.lemmas.Result.{IfOk-weaker}
use Rattle.theory.specs.Systems.{moves}
use Rattle.families.specs.Models.{step_of}
use Rattle.machines.specs.Moves.{move_of, bare_move}
use Rattle.machines.proofs.Machines.{has, moves_are}
use Rattle.machines.proofs.moves.moves_of.Goals as goal

pub returns : goal.returns
returns g c =
    let K = g.S.VariantSet in
    let v = c.args.variant in
    let xs = c.steps.result.now in
    IfOk-weaker c.collect.result _ _
    (λ m is low. ap (map move_of) is ∙ moves_are K v low xs ∙ ap (λ ys. moves v (map (step_of K) ys)) c.steps.ensures)
    (items_from_collect _ c.collect.ensures.ran
    (YieldsList-from_map _ bare_move
    (YieldsList-from_filter _ (has K v) (YieldsList-from_copied (YieldsList-from_slice xs cc))
    (ap filter_callee c.map.ensures.source ∙ c.filter.ensures.closure) (λ x b q k. search rules))
    c.map.ensures.closure (λ x r q k. search rules)))
