-- Whether steps are followed, as a test that computes, for families in which no silent step comes after another.
use Rattle.std.proofs.Common.{◌≡◌, ℕ, zero, suc, ◌<◌, Bool, true, false, not, ◌&&◌, ◌||◌, eqb, ltb, List, [], ◌∷◌, Decides, sym, refl, subst, subst₂, inl, inr}
use mathlib.Core.List.Memᴰ
use mathlib.Core.List.{Memᴰ}
use Rattle.std.proofs.lemmas.Bool.{and_parts, and_from, or_cases, or_left, eqb-true, eq-eqb, ltb-true, both_ways, not-true}
use Rattle.std.proofs.lemmas.Bool.Decides.{Decides-below_and}
use Rattle.std.specs.List.{list_all}
use Rattle.theory.specs.Sets.{Variants}
use Rattle.theory.specs.Systems.{Step, Family, machine, Goes, silence}
use Rattle.theory.specs.Tables.{Table}
use Rattle.theory.specs.Bisimulations.{Silently, stays, goes}
use Rattle.theory.specs.Marks.{StepFollowed}
use Rattle.theory.specs.Judgements.{ReachRow, by_way_of, some_below, AllFollowed}
use Rattle.theory.proofs.Systems.{step_goes, goes_step}
use Rattle.theory.proofs.Marking.{mem_of_at}
use Rattle.theory.proofs.Judgements.{BetweenStates, followed_tested}
use Rattle.worked.specs.Words.{set_of, Entry, holding}

-- every number below n passes
abbrev pub all_below : ℕ → (ℕ → Bool) → Bool
all_below zero f = true
all_below (suc n) f = f n && all_below n f

pub below_out : (n : ℕ) (f : ℕ → Bool) → all_below n f ≡ true → (k : ℕ) → k < n → f k ≡ true
below_out n f = (Decides-below_and f (λ k. f k ≡ true) (λ m. all_below m f) (λ k. (λ e. e, λ e. e)) refl (λ m. refl) n).0

-- each element of a list passes
all_out : {X : Type 0} (f : X → Bool) (xs : List X) → list_all f xs ≡ true → {x : X} → Memᴰ x xs → f x ≡ true
all_out f [] e m = absurd (Memᴰ.not-nil m)
all_out f (y ∷ ys) e (Memᴰ.head p) = subst (λ z. f z ≡ true) (sym p) (and_parts _ _ e).0
all_out f (y ∷ ys) e (Memᴰ.tail m) = all_out f ys (and_parts _ _ e).1 m

-- some step is a silent one from t to r that holds v
abbrev steps_silently : List Step → ℕ → ℕ → ℕ → Bool
steps_silently [] t r v = false
steps_silently (x ∷ xs) t r v = ((eqb x.from t && eqb x.to r) && (eqb x.action silence && x.held v)) || steps_silently xs t r v

silently_out : (v : ℕ) (xs : List Step) (t r : ℕ) → steps_silently xs t r v ≡ true →
    (x : Step) × Memᴰ x xs × (x.from ≡ t) × (x.to ≡ r) × (x.action ≡ silence) × (x.held v ≡ true)
silently_out v (x ∷ xs) t r e = elim (or_cases _ _ e) [
  | inl h ↦
      let p = and_parts _ _ h in
      let q = and_parts _ _ p.0 in
      let s = and_parts _ _ p.1 in
      (x, Memᴰ.head refl, eqb-true _ _ q.0, eqb-true _ _ q.1, eqb-true _ _ s.0, s.1)
  | inr h ↦ let k = silently_out v xs t r h in (k.0, Memᴰ.tail k.1, k.2, k.3, k.4, k.5)
]
silently_out v [] t r e = absurd (both_ways false refl e)

-- a candidate has sets at n by m pairs only, of variants below V
abbrev pub bounded_by : (n m V : ℕ) → List Entry → Bool
bounded_by n m V = list_all (λ e. (ltb e.left n && ltb e.right m) && list_all (λ x. ltb x V) e.set)

numbers_out : (V : ℕ) (xs : List ℕ) (v : ℕ) → list_all (λ x. ltb x V) xs ≡ true → set_of xs v ≡ true → v < V
numbers_out V [] v b e = absurd (both_ways false refl e)
numbers_out V (x ∷ xs) v b e = elim (or_cases _ _ e) [
  | inl h ↦ subst (λ (i : ℕ). i < V) (sym (eqb-true _ _ h)) (ltb-true _ _ (and_parts _ _ b).0)
  | inr h ↦ numbers_out V xs v (and_parts _ _ b).1 h
]

pub bounds_out : (n m V : ℕ) (es : List Entry) (s t v : ℕ) → bounded_by n m V es ≡ true → holding es s t v ≡ true → (s < n) × (t < m) × (v < V)
bounds_out n m V [] s t v b e = absurd (both_ways false refl e)
bounds_out n m V (x ∷ xs) s t v b e = elim (or_cases _ _ e) [
  | inl h ↦
      let p = and_parts _ _ h in
      let q = and_parts _ _ p.1 in
      let c = and_parts _ _ (and_parts _ _ b).0 in
      let d = and_parts _ _ c.0 in (
        subst (λ (i : ℕ). i < n) (sym (eqb-true _ _ p.0)) (ltb-true _ _ d.0),
        subst (λ (i : ℕ). i < m) (sym (eqb-true _ _ q.0)) (ltb-true _ _ d.1),
        numbers_out V x.set v c.1 q.1,
      )
  | inr h ↦ bounds_out n m V xs s t v (and_parts _ _ b).1 h
]

module _ (V : ℕ) (F : Family) where
  -- reached by no silent step, or by one
  abbrev pub one_silent : ℕ → ℕ → Variants
  one_silent t r v = eqb r t || steps_silently F.steps t r v

  -- one silent step is as far as they go
  abbrev pub soon_silent : ℕ → Bool
  soon_silent t =
      list_all (λ x. all_below V (λ v. not (eqb x.action silence && (x.held v && one_silent t x.from v)) || one_silent t x.to v)) F.steps

  abbrev pub between : Bool
  between = list_all (λ x. ltb x.from F.states && ltb x.to F.states) F.steps

  reach_in : (v t : ℕ) → soon_silent t ≡ true → v < V → {r : ℕ} → Silently (machine F v) t r → one_silent t r v ≡ true
  reach_in v t e l stays = or_left _ _ (eq-eqb t t refl)
  reach_in v t e l (goes {r = q} {s' = r} p g) =
      let m = goes_step v q silence r F.steps g in
      let h = below_out V _ (all_out _ F.steps e m.listed) v l in
      let before = reach_in v t e l p in
      let leaves : one_silent t m.step.from v ≡ true = subst (λ (i : ℕ). one_silent t i v ≡ true) (sym m.leaves) before in
      elim (or_cases _ _ h) [
        | inl n ↦ absurd (both_ways _ (not-true _ n) (and_from _ _ (eq-eqb _ _ m.does) (and_from _ _ m.holds leaves)))
        | inr y ↦ subst (λ (i : ℕ). one_silent t i v ≡ true) m.enters y
      ]

  reach_out : (t r v : ℕ) → one_silent t r v ≡ true → Silently (machine F v) t r
  reach_out t r v e = elim (or_cases _ _ e) [
    | inl p ↦ subst (λ (i : ℕ). Silently (machine F v) t i) (sym (eqb-true _ _ p)) stays
    | inr h ↦
        let k = silently_out v F.steps t r h in
        let g = step_goes F v k.0 k.1 k.5 in
        goes stays (subst₂ (λ (i a : ℕ). Goes (machine F v) i a r) k.2 k.4 (subst (λ (j : ℕ). Goes (machine F v) k.0.from k.0.action j) k.3 g))
  ]

  reach_row : (t : ℕ) → soon_silent t ≡ true → ReachRow V F t (one_silent t)
  reach_row t e r v _ l = (reach_out t r v, reach_in v t e l)

  between_out : between ≡ true → BetweenStates F
  between_out e x m = let p = and_parts _ _ (all_out _ F.steps e m) in (ltb-true _ _ p.0, ltb-true _ _ p.1)

  -- where t is one of the states, the silent steps are such, and H has variants below V only
  module _ (t : ℕ) (lt : ltb t F.states ≡ true) (inside : between ≡ true) (soon : soon_silent t ≡ true) (H : Table) (s : ℕ) (kind : (v : ℕ) → H s t v ≡ true → v < V) where
    abbrev pub is_followed : Step → ℕ → Bool
    is_followed x v = some_below F.states (by_way_of F.steps (one_silent t) H s x v)

    pub decided : (x : Step) (v : ℕ) → v < V → Decides (is_followed x v) (StepFollowed F H s t x v)
    decided x v lv = followed_tested V F (between_out inside) t (ltb-true _ _ lt) (one_silent t) (reach_row t soon) H s x v lv

    -- every step that is due is followed
    abbrev pub all_are_followed : List Step → Bool
    all_are_followed = list_all (λ x. all_below V (λ v. not (eqb x.from s && (x.held v && H s t v)) || is_followed x v))

    pub all_followed : (xs : List Step) → all_are_followed xs ≡ true → AllFollowed F H s t xs
    all_followed xs e j x l at v due =
        let lv = kind v due.2 in
        let h = below_out V _ (all_out _ xs e (mem_of_at at)) v lv in
        elim (or_cases _ _ h) [
          | inl n ↦ absurd (both_ways _ (not-true _ n) (and_from _ _ (eq-eqb _ _ due.0) (and_from _ _ due.1 due.2)))
          | inr y ↦ (decided x v lv).0 y
        ]
