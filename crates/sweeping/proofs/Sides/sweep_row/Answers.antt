use Rattle.std.proofs.Common.{◌+◌, arith}
use Rattle.theory.proofs.Sweeps.{row_more, row_struck_more}
use Rattle.tables.specs.Tables.{standing}
use Rattle.tables.proofs.Tables.{resembles_trans}
use Rattle.sweeping.specs.Visits.{rule_of_sides}
use Rattle.sweeping.proofs.Visits.{row_struck_fits}
use Rattle.sweeping.proofs.Sides.sweep_row.Goals as goal

pub loop-t-preserved : goal.loop-t-preserved
loop-t-preserved g c =
    let K = g.S.VariantSet in
    let V = K.variants in
    let rule = rule_of_sides K c.args.self.now in
    let old = c.args.table.now in
    let mid = c.loop-t.table in
    let new = c.visit.new.table in
    let s = c.args.s in
    let t = c.loop-t.t in
    let i = c.loop-t.invariant in
    let e = c.visit.ensures in
    record {
      kept = resembles_trans old mid new i.kept e.kept;
      visited = row_more V rule (standing K old) s t (standing K mid) (standing K new) i.visited e.visited;
      strikes = λ narrow.
          let sum = row_struck_more V rule (standing K old) s t (standing K mid) (standing K new) c.loop-t.strikes c.visit.result i.visited e.visited (i.strikes narrow) (e.strikes narrow) in
          let fits = row_struck_fits V rule (standing K old) s (t + 1) (omega arith) narrow in
          omega arith;
    }
