use Rattle.std.proofs.Common.{◌≡◌, ℕ, ◌<◌}
use Rattle.tables.specs.Tables.{standing, Fits, Resembles}
use Rattle.tables.proofs.filling.fill.Given as goal

abbrev pub invariant-loop-s : goal.invariant-loop-s
invariant-loop-s g l =
    let K = g.S.VariantSet in
    let old = l.initial.table in
    Resembles old l.table
    × (Fits old → (r t v : ℕ) → r < l.s → t < old.cols → standing K l.table r t v ≡ g.O.Origin.stands l.origin r t v)
