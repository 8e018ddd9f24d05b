use Rattle.std.proofs.Common.{sym, subst}
use Rattle.marking.specs.Judgements.{LapsesAt}
use Rattle.marking.proofs.judging.lapse_at.Goals as goal

pub returns-in_err-variant : goal.returns-in_err-variant
returns-in_err-variant g c =
    subst (LapsesAt g.S.VariantSet c.args.position.now c.args.place c.args.step) (sym c.from_residual.ensures) c.in_err-variant.ensures
