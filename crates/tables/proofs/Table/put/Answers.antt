use Rattle.std.proofs.Common.{◌≡◌, ◌+◌, ◌*◌, ◌<◌, length, refl, arith, length-set}
use Rattle.std.proofs.lemmas.List.{drop-set-lt}
use Rattle.tables.proofs.Places.{place_below, grid_set}
use Rattle.tables.proofs.Table.put.Goals as goal

pub returns-then-place-self : goal.returns-then-place-self
returns-then-place-self g c =
    let T = c.args.self.now in
    let s = c.args.s in
    let t = c.args.t in
    let ls : s < T.rows = omega arith in
    let lt : t < T.cols = omega arith in
    let at : c.from.result * c.from-2.result + c.from-3.result ≡ s * T.cols + t = rw (c.from.ensures, c.from-2.ensures, c.from-3.ensures) refl in
    let here : s * T.cols + t < length T.cells.now = omega (arith, at) in
    rw (c.from.ensures, c.from-2.ensures, c.from-3.ensures)
    (record {
      kept = record {
        rows = refl;
        cols = refl;
        memory = refl;
        size = simp length-set;
        beyond = drop-set-lt (T.rows * T.cols) T.cells.now (s * T.cols + t) c.args.x (place_below s t T.rows T.cols ls lt);
      };
      writes = λ _. grid_set g.S.VariantSet T.rows T.cols T.cells.now s t c.args.x ls lt here;
      passes = λ no. absurd (no (record { row = ls; col = lt; place = here }));
    })
