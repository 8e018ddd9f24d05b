use Rattle.theory.proofs.Calling.{calls_have_one_outcome}
use Rattle.guarantee.proofs.Steps.{steps_through}
use Rattle.guarantee.proofs.examining.examine.Goals as goal

pub returns : goal.returns
returns g c =
    let b = c.begin-comparison.ensures in
    record {
      calls = calls_have_one_outcome;
      comparing = b.promises;
      steps = steps_through g.S.VariantSet _ _ _ _ _ b.begins c.requires.narrow _ _ _ c.play-played.ensures;
      marks = c.mark-marked.ensures;
    }
