-- Following a step, tested by way of each state, and the least variant in which it is not followed.
use Rattle.std.proofs.Common.{◌≡◌, ℕ, zero, suc, ◌+◌, ◌<◌, ◌≤◌, Bool, true, false, not, ◌&&◌, ◌||◌, List, Some, None, Decides, sym, refl, ap, ◌∙◌, subst, subst₂, inl, inr, add-one, arith}
use mathlib.Core.List.{Memᴰ}
use Rattle.std.proofs.lemmas.Bool.{and_parts, and_from, or_cases, or_left, or_right, eqb-true, eq-eqb, cases_eq, cases_Bool, both_ways, not_from_false, not-true}
use Rattle.theory.specs.Sets.{Variants}
use Rattle.theory.specs.Systems.{Step, Family, machine, Goes, silence}
use Rattle.theory.specs.Tables.{Table}
use Rattle.theory.specs.Bisimulations.{Silently, stays, goes}
use Rattle.theory.specs.Marks.{At, StepFollowed}
use Rattle.theory.specs.Judgements.{ReachRow, by_way_of, some_below, Due, Judged, FollowedBelow}
use Rattle.theory.proofs.Systems.{step_goes, goes_step}
use Rattle.theory.proofs.Rules.{answered_out, answered_in}
use Rattle.theory.proofs.Marking.{at_same}

some_out : (n : ℕ) (f : ℕ → Bool) → some_below n f ≡ true → (r : ℕ) × (r < n) × (f r ≡ true)
some_out zero f e = absurd (both_ways false refl e)
some_out (suc n) f e = elim (or_cases _ _ e) [
  | inl h ↦ let k = some_out n f h in (k.0, omega (arith, k.1), k.2)
  | inr h ↦ (n, omega arith, h)
]

some_in : (n : ℕ) (f : ℕ → Bool) (r : ℕ) → r < n → f r ≡ true → some_below n f ≡ true
some_in zero f r l e = absurd (omega arith)
some_in (suc n) f r l e = elim (cases_eq r n) [
  | inl p ↦ or_right _ _ (subst (λ (k : ℕ). f k ≡ true) p e)
  | inr p ↦ or_left _ _ (some_in n f r (omega arith) e)
]

-- one state more
pub some_more : (n : ℕ) (f : ℕ → Bool) (a b : Bool) → a ≡ some_below n f → b ≡ f n → (a || b) ≡ some_below (n + 1) f
some_more n f a b p q = ap (λ (x : Bool). x || b) p ∙ ap (λ (x : Bool). some_below n f || x) q ∙ sym (ap (λ (k : ℕ). some_below k f) (add-one n))

-- every step of the family is between its states
abbrev pub BetweenStates : Family → Type 0
BetweenStates F = (x : Step) → Memᴰ x F.steps → (x.from < F.states) × (x.to < F.states)

module _ (V : ℕ) (F : Family) (between : BetweenStates F) (t : ℕ) (lt : t < F.states) (X : ℕ → Variants) (row : ReachRow V F t X)
    (H : Table) (s : ℕ) (x : Step) (v : ℕ) (lv : v < V) where
  follows : (r : ℕ) → r < F.states → by_way_of F.steps X H s x v r ≡ true → StepFollowed F H s t x v
  follows r l e =
      let p = and_parts _ _ e in
      let q = and_parts _ _ p.0 in
      let silent = (row r v l lv).0 q.0 in
      elim (or_cases _ _ p.1) [
        | inl h ↦
            let a = answered_out F H r x v h in
            let g = step_goes F v a.step a.listed a.holds in
            record {
              via = r;
              end = a.step.to;
              silent = silent;
              still = q.1;
              does = inl (subst₂ (λ (m n : ℕ). Goes (machine F v) m n a.step.to) a.leaves a.does g);
              then = a.after;
            }
        | inr h ↦
            let b = and_parts _ _ h in
            record { via = r; end = r; silent = silent; still = q.1; does = inr (eqb-true _ _ b.0, refl); then = b.1 }
      ]

  silent_inside : {r : ℕ} → Silently (machine F v) t r → r < F.states
  silent_inside stays = lt
  silent_inside (goes {r = q} {s' = r} p g) =
      let m = goes_step v q silence r F.steps g in
      subst (λ (k : ℕ). k < F.states) m.enters (between m.step m.listed).1

  followed_by_way : StepFollowed F H s t x v → (r : ℕ) × (r < F.states) × (by_way_of F.steps X H s x v r ≡ true)
  followed_by_way f =
      let r = f.via in
      let l = silent_inside f.silent in
      let here = and_from _ _ ((row r v l lv).1 f.silent) f.still in (
        r,
        l,
        and_from _ _ here (elim f.does [
          | inl g ↦
              let m = goes_step v r x.action f.end F.steps g in
              or_left _ _ (answered_in H r x v m.listed m.leaves m.does m.holds (subst (λ (k : ℕ). H x.to k v ≡ true) (sym m.enters) f.then))
          | inr e ↦ or_right _ _ (and_from _ _ (eq-eqb _ _ e.0) (subst (λ (k : ℕ). H x.to k v ≡ true) (sym e.1) f.then))
        ]),
      )

  -- a step is followed exactly by way of some state
  pub followed_tested : Decides (some_below F.states (by_way_of F.steps X H s x v)) (StepFollowed F H s t x v)
  followed_tested = (
    λ e. let k = some_out F.states (by_way_of F.steps X H s x v) e in follows k.0 k.1 k.2,
    λ f. let k = followed_by_way f in some_in F.states (by_way_of F.steps X H s x v) k.0 k.1 k.2,
  )

-- the least variant in which a step is due and not followed; the kind has at most 1024 variants
module _ (V : ℕ) (few : V ≤ 1024) (F : Family) (H : Table) (s t : ℕ) (kind : (v : ℕ) → H s t v ≡ true → v < V) (x : Step) (from : x.from ≡ s)
    (followed lacking : Variants) (told : (v : ℕ) → v < V → Decides (followed v) (StepFollowed F H s t x v))
    (is : (v : ℕ) → lacking v ≡ ((H s t v && x.held v) && not (followed v))) where
  met : (v : ℕ) → Due F H s t x v → lacking v ≡ false → StepFollowed F H s t x v
  met v due out = elim (cases_Bool (followed v)) [
    | inl p ↦ (told v (kind v due.2)).0 p
    | inr p ↦ absurd (both_ways (lacking v) out (is v ∙ and_from _ _ (and_from _ _ due.2 due.1) (not_from_false _ p)))
  ]

  pub judged_none : ((v : ℕ) → v < 1024 → lacking v ≡ false) → Judged F H s t x None
  judged_none none v due = let l = kind v due.2 in met v due (none v (omega arith))

  pub judged_some : (v : ℕ) → lacking v ≡ true → ((u : ℕ) → u < v → lacking u ≡ false) → Judged F H s t x (Some v)
  judged_some v lacks before =
      let p = and_parts _ _ (sym (is v) ∙ lacks) in
      let q = and_parts _ _ p.0 in (
        (from, q.1, q.0),
        λ m. both_ways (followed v) (not-true _ p.1) ((told v (kind v q.0)).1 m),
        λ u l due. met u due (before u l),
      )

-- a step that does not leave the state asks nothing
pub judged_elsewhere : (F : Family) (H : Table) (s t : ℕ) (x : Step) → (x.from ≡ s → ⊥) → Judged F H s t x None
judged_elsewhere F H s t x ne v due = absurd (ne due.0)

-- one step more is followed
pub followed_more : (F : Family) (H : Table) (s t : ℕ) (xs : List Step) (i : ℕ) (x : Step) → At xs i x → FollowedBelow F H s t xs i → Judged F H s t x None →
    FollowedBelow F H s t xs (i + 1)
followed_more F H s t xs i x at below judged j y l at' v due = elim (cases_eq j i) [
  | inl e ↦
      let same : y ≡ x = at_same (subst (λ (k : ℕ). At xs k y) e at') at in
      subst (λ (z : Step). StepFollowed F H s t z v) (sym same) (judged v (subst (λ (z : Step). Due F H s t z v) same due))
  | inr ne ↦ below j y (omega arith) at' v due
]
