-- Families that are made of steps, one step more at a time.
use Rattle.std.proofs.Common.{◌≡◌, ℕ, zero, suc, ◌+◌, ◌<◌, ◌≤◌, cond, ◌&&◌, ltb, min, List, [], ◌∷◌, ◌++◌, map, length, get_or, take, drop, set, sym, ap, ◌∙◌, arith, add-one, length-append}
use Rattle.std.proofs.lemmas.List.{length-map, length-take, length-drop}
use Rattle.std.proofs.Math.Seq.{drop-cons}
use Rattle.theory.specs.Answers.{refused}
use Rattle.variants.specs.declared.VariantSet.{Ghosts as Kind}
use Rattle.families.specs.declared.parts.Step.{Step}
use Rattle.families.specs.declared.Draft.{Draft}
use Rattle.families.specs.Models.{step_of, made}
use Rattle.families.specs.Drafts.{drafted, memory_of}
use Rattle.families.specs.Making.{steps_answer}

-- the step at place i of the list, of which a family of n states is made
module _ {S : Type 0} (n places : ℕ) (xs : List (Step S)) (i : ℕ) (x : Step S) (l : i < length xs) (read : x ≡ get_or xs i x) where
  pub step_here : steps_answer n (min 1024 places) i (drop i xs) ≡
      cond (ltb x.from n && ltb x.to n) (cond (ltb i (min 1024 places)) (steps_answer n (min 1024 places) (i + 1) (drop (i + 1) xs)) (refused 5)) (refused 4)
  step_here =
      ap (steps_answer n (min 1024 places) i) (drop-cons xs i x l ∙ ap (λ (y : Step S). y ∷ drop (suc i) xs) (sym read))
      ∙ ap (λ (j : ℕ). cond (ltb x.from n && ltb x.to n) (cond (ltb i (min 1024 places)) (steps_answer n (min 1024 places) (i + 1) (drop j xs)) (refused 5)) (refused 4)) (sym (add-one i))

-- a draft that has the first i steps of the list holds i
pub holds_first : {S : Type 0} (K : Kind S) (d : Draft S) (n : ℕ) (xs : List (Step S)) (i : ℕ) → i ≤ length xs → drafted K d ≡ made n (map (step_of K) (take i xs)) → d.parts.held ≡ i
holds_first K d n xs i l means =
    omega (
      arith,
      ap (λ F. length F.steps) means,
      length-map (take d.parts.held (memory_of d)) (step_of K),
      length-map (take i xs) (step_of K),
      length-take d.parts.held (memory_of d),
      length-take i xs,
      d.parts.room,
    )

-- memory whose first i places have the first i of xs, and its next one the next of xs
pub one_more : {A : Type 0} (xs lent : List A) (i : ℕ) (x : A) → i < length xs → i < length lent → x ≡ get_or xs i x →
    set (take i xs ++ drop i lent) i x ≡ take (i + 1) xs ++ drop (i + 1) lent
one_more {A} xs lent i x l m read = at xs lent i l m read ∙ ap (λ (j : ℕ). take j xs ++ drop j lent) (sym (add-one i))
  where
    at : (ys zs : List A) (k : ℕ) → k < length ys → k < length zs → x ≡ get_or ys k x → set (take k ys ++ drop k zs) k x ≡ take (suc k) ys ++ drop (suc k) zs
    at [] zs k a b e = absurd (omega arith)
    at (y ∷ ys) [] k a b e = absurd (omega arith)
    at (y ∷ ys) (z ∷ zs) zero a b e = ap (λ (w : A). w ∷ zs) e
    at (y ∷ ys) (z ∷ zs) (suc k) a b e = ap (λ (ws : List A). y ∷ ws) (at ys zs k (omega arith) (omega arith) e)

-- its length is the memory's
pub as_long : {A : Type 0} (xs lent : List A) (i : ℕ) → i ≤ length xs → i ≤ length lent → length (take i xs ++ drop i lent) ≡ length lent
as_long xs lent i l m = omega (arith, length-append (take i xs) (drop i lent), length-take i xs, length-drop i lent)
