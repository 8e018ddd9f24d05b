use Rattle.std.proofs.Common.{rules}
use Rattle.std.proofs.lemmas.Bool.Decides.{Decides-at}
use Rattle.masks.proofs.Words.{word_same}
use Rattle.masks.proofs.MaskVariantSet.same.Goals as goal

pub returns : goal.returns
returns c = Decides-at _ _ c.eq.ensures (word_same _ _ (search rules) (search rules))
