use Rattle.std.proofs.Common.{rules, refl}
use Rattle.comparing.specs.Moments.{moment}
use Rattle.histories.proofs.Turns.{unchanged}
use Rattle.histories.proofs.playing.take_open.Goals.{in-Sweep, in-Run, in-Ask, in-Settle+in-Err, in-Verdict}
use Rattle.histories.proofs.playing.take_open.Goals as goal

pub returns : goal.returns
returns g c =
    let K = g.S.VariantSet in
    elim c.match-request.branch [
      | in-Sweep w ↦ rw (w.in-Sweep.is, w.comparison-is, w.reply-is) w.sweep.ensures
      | in-Run w ↦ rw (w.in-Run.is, w.comparison-is, w.reply-is) w.run.ensures
      | in-Ask w ↦ rw (w.in-Ask.is, w.comparison-is, w.reply-is) (unchanged K _ _ _ _ _ (w.ask.ensures (moment K c.args.comparison) refl))
      | in-Settle+in-Err w ↦ rw (w.in-Settle.is, w.comparison-is, w.reply-is) (unchanged K _ _ _ _ _ (λ _. rw w.in-Err.is at w.can_settle.ensures.grants))
      | in-Verdict w ↦ rw (w.in-Verdict.is, w.comparison-is, w.reply-is) search rules
    ]
