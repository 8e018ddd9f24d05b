use Rattle.std.proofs.Common.{◌≡◌}
use Rattle.theory.specs.Sweeps.{row_visited, row_struck}
use Rattle.tables.specs.Tables.{standing, Resembles}
use Rattle.variants.specs.Kinds.{Countable}
use Rattle.sweeping.specs.Visits.{rule_of_sides}
use Rattle.sweeping.proofs.Sides.sweep_row.Given as goal

-- the table after the visits of the pairs before t, and what they struck
abbrev pub invariant-loop-t : goal.invariant-loop-t
invariant-loop-t g l =
    let K = g.S.VariantSet in
    let rule = rule_of_sides K l.self in
    let T = standing K l.initial.table in
    record {
      kept : Resembles l.initial.table l.table;
      visited : standing K l.table ≡ row_visited rule T l.s l.t;
      strikes : Countable K → l.strikes ≡ row_struck K.variants rule T l.s l.t;
    }
