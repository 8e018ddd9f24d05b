use Rattle.std.proofs.Common.{rules}
use Rattle.pairs.proofs.Joined.{joined_same, same_second}
use Rattle.pairs.proofs.PairVariantSet.same.Goals as goal

pub returns-then-same : goal.returns-then-same
returns-then-same g c = (search (rules, joined_same), λ e. c.same-then-same.ensures.1 (same_second _ _ _ _ _ e))
