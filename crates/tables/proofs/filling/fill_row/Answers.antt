use Rattle.std.proofs.Common.{◌≡◌, ◌<◌, ◌∙◌, arith}
use Rattle.tables.specs.Tables.{standing, Fits, written}
use Rattle.tables.proofs.Tables.{resembles_trans, has_pair, fits_still, written_more, written_other}
use Rattle.tables.proofs.filling.fill_row.Goals as goal

pub loop-t-preserved : goal.loop-t-preserved
loop-t-preserved g c =
    let K = g.S.VariantSet in
    let old = c.args.table.now in
    let mid = c.loop-t.table in
    let new = c.put.new.self in
    let s = c.args.s in
    let t = c.loop-t.t in
    let x = c.set_at.result in
    let i = c.loop-t.invariant in
    let wrote : Fits old → s < old.rows → standing K new ≡ written (standing K mid) s t (K.holds x) =
    λ fits ls. c.put.ensures.writes (has_pair mid s t (fits_still old mid i.0 fits) (omega (arith, i.0.rows)) (omega (arith, i.0.cols))) in (
      resembles_trans old mid new i.0 c.put.ensures.kept,
      (λ fits ls. written_more (standing K mid) (standing K new) s t (K.holds x) (wrote fits ls) (g.O.Origin.stands c.args.origin.now) c.set_at.ensures (i.1 fits ls)),
      (λ fits ls r t' v ne. written_other (standing K mid) (standing K new) s t (K.holds x) (wrote fits ls) r t' v ne ∙ i.2 fits ls r t' v ne),
    )
