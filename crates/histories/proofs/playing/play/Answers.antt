use Rattle.std.proofs.Common.{◌≡◌, length, sym, arith}
use Rattle.std.proofs.lemmas.List.{set-get_or}
use Rattle.histories.proofs.Turns.{none_yet, all_done, stopped, one_more}
use Rattle.histories.proofs.playing.play.Goals as goal

pub loop-done-init : goal.loop-done-init
loop-done-init g c = none_yet g.S.VariantSet _ _ _ _

pub loop-done-preserved : goal.loop-done-preserved
loop-done-preserved g c =
    let is = sym c.index-turns-done.is in
    rw is (one_more g.S.VariantSet _ _ g.met.S.VariantSet.within _ _ _ _ _ c.loop-done.invariant (omega arith) _ c.index-turns-done.is
    _ (rw is at c.take-next.ensures) c.in-Some.reply c.in-Some.is)

pub returns-in_default : goal.returns-in_default
returns-in_default g c =
    let is = sym c.index-turns-done.is in
    rw set-get_or (stopped g.S.VariantSet _ _ g.met.S.VariantSet.within _ _ _ _ _ c.loop-done.invariant (omega arith) _ c.index-turns-done.is
    _ (rw is at c.take-next.ensures) c.in_default.is)

pub returns : goal.returns
returns g c =
    let all : c.loop-done.done ≡ length c.loop-done.turns = omega arith in
    rw (sym all) (all_done g.S.VariantSet _ _ g.met.S.VariantSet.within _ _ _ _ _ c.loop-done.invariant (omega (arith, all)))
