use Rattle.std.proofs.Common.{◌≡◌, ◌*◌, refl, arith}
use Rattle.tables.proofs.Places.{row_cut}
use Rattle.tables.proofs.reading.Grid.row.Goals as goal

pub returns-then-first-end : goal.returns-then-first-end
returns-then-first-end g c t v =
    let G = c.args.self.now in
    let first : c.from.result * c.from-2.result ≡ c.args.s * G.cols = rw (c.from.ensures, c.from-2.ensures) refl in
    rw (c.from.ensures, c.from-2.ensures)
    (row_cut g.S.VariantSet G.rows G.cols G.cells.now c.args.s c.min-end.result (omega (arith, first)) (omega (arith, first)) t v)
