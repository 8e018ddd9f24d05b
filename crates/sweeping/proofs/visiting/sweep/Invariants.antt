use Rattle.std.proofs.Common.{◌≡◌, ◌*◌, ◌≤◌}
use Rattle.theory.specs.Sweeps.{rows_visited, rows_struck}
use Rattle.tables.specs.Tables.{standing, Resembles}
use Rattle.variants.specs.Kinds.{Countable}
use Rattle.sweeping.specs.Visits.{rule_of_sides}
use Rattle.sweeping.proofs.visiting.sweep.Given as goal

-- the table after the visits of the rows before s, and what they struck
abbrev pub invariant-loop-s : goal.invariant-loop-s
invariant-loop-s g l =
    let K = g.S.VariantSet in
    let rule = rule_of_sides K l.sides in
    let T = standing K l.initial.table in
    let m = l.initial.table.cols in
    record {
      kept : Resembles l.initial.table l.table;
      visited : standing K l.table ≡ rows_visited rule m T l.s;
      strikes : Countable K → l.strikes ≡ rows_struck K.variants rule m T l.s;
      few : Countable K → l.strikes ≤ 262144 * l.s;
    }
