use Rattle.std.proofs.Common.{rules}
use Rattle.masks.proofs.Words.{word_least}
use Rattle.masks.proofs.MaskVariantSet.least.Goals as goal

pub returns : goal.returns
returns c = rw c.then_some.ensures (word_least c.args.self.bits (search rules))
