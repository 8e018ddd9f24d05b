use Rattle.std.proofs.Common.{◌≡◌, ℕ, List, true, refl, subst, rules}
use mathlib.Core.Path.{fun_ext}
use Rattle.std.proofs.lemmas.Fn.{fold_over, slice_gives, fronts}
use Rattle.masks.specs.declared.Mask.{Mask}
use Rattle.masks.specs.Words.{word}
use Rattle.worked.specs.Words.{set_of}
use Rattle.lines.specs.Meanings.{all_below_64}
use Rattle.lines.proofs.Numbers.{set_more}
use Rattle.lines.proofs.set_of.Goals as goal

-- the numbers so far are those of the set so far
abbrev Folded : List ℕ → Mask → Type 0
Folded ys a = all_below_64 ys ≡ true → word a.bits ≡ set_of ys

pub returns : goal.returns
returns c =
    subst (λ (ys : List ℕ). Folded ys c.fold.result) c.iter.ensures.rest
    (fold_over fronts (λ y. y.now) _ Folded _
    (λ ys a x b f' so_far k. (λ few. set_more ys x.now (word a.bits) (word b.bits) few so_far (λ v. search rules), refl))
    _ _ _ _ (slice_gives c.iter.result) (λ _. fun_ext c.none.ensures) c.fold.ensures.ran)
    c.requires
