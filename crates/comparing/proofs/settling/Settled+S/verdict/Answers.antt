use Rattle.std.proofs.Common.{refl, sym, subst}
use mathlib.Core.Path.{fun_ext}
use Rattle.theory.specs.Sets.{Variants, members}
use Rattle.theory.specs.Answers.{granted}
use Rattle.theory.specs.Calls.{Does, verdict, judged}
use Rattle.comparing.specs.Moments.{frame, settled_moment}
use Rattle.comparing.proofs.settling.Settled+S.verdict.Goals as goal

pub returns : goal.returns
returns g c =
    let K = g.S.VariantSet in
    let self = c.args.self.now in
    let m = settled_moment K self in
    subst (λ (X : Variants). Does (frame K self) m verdict (granted (members K.variants X)) m) (sym (fun_ext c.at.ensures)) (judged refl)
