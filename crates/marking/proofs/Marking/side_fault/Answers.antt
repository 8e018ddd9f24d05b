use Rattle.std.proofs.Common.{Some, None}
use Rattle.following.specs.Views.{side_of}
use Rattle.marking.specs.Faults.{rule_number}
use Rattle.marking.specs.Judgements.{left_of, right_of, candidate_of}
use Rattle.marking.proofs.Pairs.{side_clear, side_faulty, side_judged}
use Rattle.marking.proofs.Marking.side_fault.Goals as goal

pub returns-in-Some : goal.returns-in-Some
returns-in-Some g c few ls lt rows listed clear =
    let K = g.S.VariantSet in
    let m = c.args.self.now in
    let side = side_of c.args.side in
    side_faulty (left_of K m) (right_of K m) listed (candidate_of K m) c.args.s c.args.t side clear c.in-Some.lapse
    (side_judged K m side c.args.s c.args.t c.position.result c.position.ensures c.mover.result.now c.mover.ensures (Some c.in-Some.lapse) c.in-Some.ensures few ls lt rows)
    (rule_number c.from.result) c.from.ensures c.fault.result c.fault.ensures

pub returns-in-None : goal.returns-in-None
returns-in-None g c few ls lt rows listed clear =
    let K = g.S.VariantSet in
    let m = c.args.self.now in
    let side = side_of c.args.side in
    side_clear (left_of K m) (right_of K m) listed (candidate_of K m) c.args.s c.args.t side clear
    (side_judged K m side c.args.s c.args.t c.position.result c.position.ensures c.mover.result.now c.mover.ensures None c.in-None.ensures few ls lt rows)
