use Rattle.std.proofs.Common.{◌≡◌, sym, ap, ◌∙◌, arith}
use Rattle.theory.specs.Sweeps.{row_visited, row_struck, removed}
use Rattle.theory.proofs.Sweeps.{rows_more, rows_struck_more, rows_struck_all}
use Rattle.tables.specs.Tables.{standing}
use Rattle.sweeping.specs.Visits.{rule_of}
use Rattle.tables.proofs.Tables.{resembles_trans}
use Rattle.sweeping.proofs.visiting.sweep.Goals as goal

pub loop-s-preserved : goal.loop-s-preserved
loop-s-preserved g c =
    let K = g.S.VariantSet in
    let V = K.variants in
    let rule = rule_of K c.args.left.now c.args.right.now in
    let old = c.args.table.now in
    let mid = c.loop-s.table in
    let new = c.sweep_row.new.table in
    let m = old.cols in
    let s = c.loop-s.s in
    let i = c.loop-s.invariant in
    let e = c.sweep_row.ensures in
    let cols = i.kept.cols in
    record {
      kept = resembles_trans old mid new i.kept e.kept;
      visited = rows_more V rule m (standing K old) s (standing K mid) (standing K new) i.visited (e.visited ∙ ap (row_visited rule (standing K mid) s) cols);
      strikes = λ narrow.
          let sum = rows_struck_more V rule m (standing K old) s (standing K mid) c.loop-s.strikes c.sweep_row.result i.visited (i.strikes narrow) (e.strikes narrow ∙ ap (row_struck V rule (standing K mid) s) cols) in
          let few = i.few narrow in
          let row = e.few narrow in
          omega arith;
      few = λ narrow.
          let few = i.few narrow in
          let row = e.few narrow in
          omega arith;
    }

pub returns-clause-strikes : goal.returns-clause-strikes
returns-clause-strikes g c narrow =
    let K = g.S.VariantSet in
    let V = K.variants in
    let rule = rule_of K c.args.left.now c.args.right.now in
    let old = c.args.table.now in
    let T = standing K old in
    let i = c.loop-s.invariant in
    let all : c.loop-s.s ≡ old.rows = omega arith in
    rw all at (i.strikes narrow) ∙ rows_struck_all V rule old.cols T old.rows ∙ ap (removed V old.rows old.cols T) (sym (rw all at i.visited))
