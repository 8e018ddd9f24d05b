use Rattle.std.proofs.Common.{rules, refl}
use Rattle.comparing.specs.Moments.{settled_moment}
use Rattle.histories.proofs.Turns.{unchanged}
use Rattle.histories.proofs.playing.take_settled.Goals.{in-Ask, in-Verdict, in-Sweep}
use Rattle.histories.proofs.playing.take_settled.Goals as goal

pub returns : goal.returns
returns g c left right =
    let K = g.S.VariantSet in
    elim c.match-request.branch [
      | in-Ask w ↦ rw (w.in-Ask.is, w.reply-is) (unchanged K left right _ _ _ (w.ask.ensures (settled_moment K c.args.settled) refl))
      | in-Verdict w ↦ rw (w.in-Verdict.is, w.reply-is) search rules
      | in-Sweep w ↦ search rules
    ]
