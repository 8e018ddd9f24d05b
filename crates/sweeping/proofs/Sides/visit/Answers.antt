use Rattle.std.proofs.Common.{◌∙◌}
use Rattle.sweeping.specs.Visits.{rule_of_sides}
use Rattle.sweeping.proofs.Visits.{visit_done, struck_here}
use Rattle.sweeping.proofs.Sides.visit.Goals as goal

pub returns-clause-visited : goal.returns-clause-visited
returns-clause-visited g c =
    let K = g.S.VariantSet in
    let p = c.put.ensures in
    visit_done K (rule_of_sides K c.args.self.now) c.args.table.now c.put.new.self c.args.s c.args.t c.judge-judged.result.kept p.writes p.passes c.judge-judged.ensures.kept

pub returns-clause-strikes : goal.returns-clause-strikes
returns-clause-strikes g c narrow =
    let K = g.S.VariantSet in
    let p = c.put.ensures in
    let j = c.judge-judged.ensures in
    j.strikes narrow ∙ struck_here K (rule_of_sides K c.args.self.now) c.args.table.now c.put.new.self c.args.s c.args.t c.judge-judged.result.kept p.writes p.passes j.kept K.variants
