use Rattle.std.proofs.Common.{◌≡◌, ℕ, ◌<◌}
use Rattle.tables.specs.Tables.{standing, Fits, Resembles}
use Rattle.tables.proofs.filling.fill_row.Given as goal

abbrev pub invariant-loop-t : goal.invariant-loop-t
invariant-loop-t g l =
    let K = g.S.VariantSet in
    let old = l.initial.table in
    Resembles old l.table
    × (Fits old → l.s < old.rows → (t v : ℕ) → t < l.t → standing K l.table l.s t v ≡ g.O.Origin.stands l.origin l.s t v)
    × (Fits old → l.s < old.rows → (r t v : ℕ) → (r ≡ l.s → ⊥) → standing K l.table r t v ≡ standing K old r t v)
