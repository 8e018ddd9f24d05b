use Rattle.std.proofs.Common.{refl, ap, ◌∙◌}
use Rattle.std.proofs.lemmas.Bool.{and_right}
use Rattle.theory.proofs.Cards.{card_zero}
use Rattle.variants.specs.Sets.{capped}
use Rattle.worked.proofs.kinds.pair_only_65.Goals as goal

pub returns : goal.returns
returns c = c.count.ensures ∙ ap capped (card_zero 65 _ (λ v _. c.only.ensures v ∙ and_right _ _ refl))
