-- What a label and a step do to what parts mean.
use Rattle.std.proofs.Common.{◌≡◌, ℕ, zero, suc, ◌+◌, ◌<◌, List, [], ◌∷◌, ◌++◌, map, length, get_or, take, replicate, sym, refl, ap, ◌∙◌, ap₂, subst, arith}
use mathlib.Core.Path.{fun_ext}
use mathlib.Core.List.Memᴰ
use mathlib.Core.List.{Memᴰ}
use Rattle.std.proofs.lemmas.List.{map_more, length-take, get_or-take, take_more_set, map_push}
use Rattle.theory.specs.Systems as theory
use Rattle.theory.specs.Marks.{At, here, there}
use Rattle.theory.proofs.Judgements.{BetweenStates}
use Rattle.variants.specs.declared.VariantSet.{Ghosts as Kind}
use Rattle.families.specs.declared.parts.Step.{Step}
use Rattle.families.specs.declared.parts.Parts.{Parts}
use Rattle.families.specs.declared.Family.{Family}
use Rattle.families.specs.Parts.{Pushed}
use Rattle.families.specs.Models.{step_of, held_steps, meaning, with_step}

-- the label of each state
abbrev labelling : List ℕ → ℕ → ℕ
labelling xs s = get_or xs s 0

-- no label was written yet
pub labels_none : (m : ℕ) → ◌≡◌ {A = ℕ → ℕ} (labelling (replicate m 0)) (λ s. 0)
labels_none m = fun_ext (at m)
  where
    at : (m s : ℕ) → labelling (replicate m 0) s ≡ 0
    at zero s = refl
    at (suc m) zero = refl
    at (suc m) (suc s) = at m s

-- what the parts mean once one step more is held
module _ {S : Type 0} (p q : Parts S) (x : Step S) (l : p.held < length p.steps.now) (e : Pushed p x q) where
  pub pushed_means : (K : Kind S) → meaning K q ≡ with_step (meaning K p) (step_of K x)
  pushed_means K =
      ap₂ (λ (n s : ℕ). made n s q.labels (map (step_of K) (take q.held q.steps.now))) e.states e.start
      ∙ ap₂ (made p.states p.start) e.labels steps
    where
      made : ℕ → ℕ → List ℕ → List theory.Step → theory.Family
      made n s labels steps = record { states = n; start = s; label = labelling labels; steps = steps }

      steps : map (step_of K) (take q.held q.steps.now) ≡ map (step_of K) (take p.held p.steps.now) ++ step_of K x ∷ []
      steps =
          ap₂ (λ (k : ℕ) (xs : List (Step S)). map (step_of K) (take k xs)) e.held e.steps
          ∙ ap (map (step_of K)) (take_more_set p.steps.now p.held x l)
          ∙ map_push (step_of K) (take p.held p.steps.now) x

-- the steps up to a place, and the one that stands there
pub steps_more : {S : Type 0} (K : Kind S) (xs : List (Step S)) (i : ℕ) (x : Step S) → i < length xs → x ≡ get_or xs i x →
    map (step_of K) (take (i + 1) xs) ≡ map (step_of K) (take i xs) ++ step_of K x ∷ []
steps_more {S} K xs i x l e =
    map_more (step_of K) xs i x l ∙ ap (λ (y : Step S). map (step_of K) (take i xs) ++ step_of K y ∷ []) (sym e)

-- the step that is read at a place stands there
pub step_at : {S : Type 0} (K : Kind S) (xs : List (Step S)) (i : ℕ) (x : Step S) → i < length xs → x ≡ get_or xs i x → At (map (step_of K) xs) i (step_of K x)
step_at K [] i x l e = absurd (omega arith)
step_at K (y ∷ xs) zero x l e = subst (λ (z : Step _). At (step_of K y ∷ map (step_of K) xs) 0 (step_of K z)) (sym e) here
step_at K (y ∷ xs) (suc i) x l e = there (step_at K xs i x (omega arith) e)

-- a step that a closed family holds is between its states
pub step_between : {S : Type 0} (f : Family S) (xs : List (Step S)) → xs ≡ held_steps f.parts → (i : ℕ) (x : Step S) → i < length xs → x ≡ get_or xs i x →
    (x.from < f.parts.states) × (x.to < f.parts.states)
step_between {S} f xs e i x l read =
    let p = f.parts in
    let held : i < p.held = omega (arith, ap length e, length-take p.held p.steps.now) in
    let is : x ≡ get_or p.steps.now i x = read ∙ ap (λ (ys : List (Step S)). get_or ys i x) e ∙ get_or-take p.held p.steps.now i x held in (
      subst (λ (y : Step S). y.from < p.states) (sym is) (p.leaves i x (omega arith) held),
      subst (λ (y : Step S). y.to < p.states) (sym is) (p.enters i x (omega arith) held),
    )

-- where a member of a mapped list comes from
record Source {S : Type 0} (K : Kind S) (xs : List (Step S)) (y : theory.Step) : Type 0 where
  place : ℕ
  step : Step S
  below : place < length xs
  read : step ≡ get_or xs place step
  means : y ≡ step_of K step

source : {S : Type 0} (K : Kind S) (xs : List (Step S)) (y : theory.Step) → Memᴰ y (map (step_of K) xs) → Source K xs y
source K [] y m = absurd (Memᴰ.not-nil m)
source K (x ∷ xs) y (Memᴰ.head e) = record { place = 0; step = x; below = omega arith; read = refl; means = e }
source K (x ∷ xs) y (Memᴰ.tail m) =
    let k = source K xs y m in
    record { place = suc k.place; step = k.step; below = omega (arith, k.below); read = k.read; means = k.means }

-- every step of a closed family is between its states
pub family_between : {S : Type 0} (K : Kind S) (f : Family S) → BetweenStates (meaning K f.parts)
family_between K f y m =
    let k = source K (held_steps f.parts) y m in
    let b = step_between f (held_steps f.parts) refl k.place k.step k.below k.read in
    subst (λ (z : theory.Step). (z.from < f.parts.states) × (z.to < f.parts.states)) (sym k.means) b
