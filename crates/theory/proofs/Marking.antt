-- Marking accepts exactly the branching bisimulations, and has one answer.
use Rattle.std.proofs.Common.{◌≡◌, ℕ, suc, ◌<◌, true, ◌⊎◌, ◌↔◌, List, [], ◌∷◌, length, sym, refl, ap, subst, subst₂, inl, inr, arith}
use mathlib.Core.List.{Memᴰ}
use Rattle.std.proofs.lemmas.Bool.{cases_order}
use Rattle.theory.specs.Sets.{Variants}
use Rattle.theory.specs.Systems.{Step, Family, machine, Goes}
use Rattle.theory.specs.Tables.{Table}
use Rattle.theory.specs.Bisimulations.{Followed, BranchingBisimulation}
use Rattle.theory.specs.Answers.{Answer, granted}
use Rattle.theory.specs.Marks.{At, here, there, Side, left, right, mover, follower, own, other, facing, StepFollowed, Spot, at_starts, at_step, EarlierPair, EarlierStep, Before, Asks, of_starts, of_step, Meets, by_starts, by_step, Passes, FirstFault, fault, Marked, accepted, faulty, Candidate, Bisimulates, MarkingIsExact}
use Rattle.theory.proofs.Systems.{step_goes, goes_step}

-- the steps of a list by their places
pub at_of_mem : {x : Step} {xs : List Step} → Memᴰ x xs → (i : ℕ) × At xs i x
at_of_mem {x} (Memᴰ.head {x = y} {xs = ys} e) = (0, subst (λ (z : Step). At (y ∷ ys) 0 z) (sym e) here)
at_of_mem (Memᴰ.tail m) = let r = at_of_mem m in (suc r.0, there r.1)

pub mem_of_at : {x : Step} {xs : List Step} {i : ℕ} → At xs i x → Memᴰ x xs
mem_of_at here = Memᴰ.head refl
mem_of_at (there a) = Memᴰ.tail (mem_of_at a)

pub at_same : {x y : Step} {xs : List Step} {i : ℕ} → At xs i x → At xs i y → x ≡ y
at_same here here = refl
at_same (there p) (there q) = at_same p q

pub at_below : {x : Step} {xs : List Step} {i : ℕ} → At xs i x → i < length xs
at_below here = omega arith
at_below (there a) = omega (arith, at_below a)

-- the order of the spots is total
pair_order : (s t s' t' : ℕ) → EarlierPair s t s' t' ⊎ (((s ≡ s') × (t ≡ t')) ⊎ EarlierPair s' t' s t)
pair_order s t s' t' = go (cases_order s s') (cases_order t t')
  where
    go : (s ≡ s') ⊎ ((s < s') ⊎ (s' < s)) → (t ≡ t') ⊎ ((t < t') ⊎ (t' < t)) → EarlierPair s t s' t' ⊎ (((s ≡ s') × (t ≡ t')) ⊎ EarlierPair s' t' s t)
    go (inl e) (inl e') = inr (inl (e, e'))
    go (inl e) (inr (inl l)) = inl (inr (e, l))
    go (inl e) (inr (inr l)) = inr (inr (inr (sym e, l)))
    go (inr (inl l)) d = inl (inl l)
    go (inr (inr l)) d = inr (inr (inl l))

step_order : (side : Side) (i : ℕ) (side' : Side) (j : ℕ) →
    EarlierStep side i side' j ⊎ (((side ≡ side') × (i ≡ j)) ⊎ EarlierStep side' j side i)
step_order left i left j = elim (cases_order i j) [ inl e ↦ inr (inl (refl, e)) | inr (inl l) ↦ inl l | inr (inr l) ↦ inr (inr l) ]
step_order left i right j = inl tt
step_order right i left j = inr (inr tt)
step_order right i right j = elim (cases_order i j) [ inl e ↦ inr (inl (refl, e)) | inr (inl l) ↦ inl l | inr (inr l) ↦ inr (inr l) ]

order : (p q : Spot) → Before p q ⊎ ((p ≡ q) ⊎ Before q p)
order at_starts at_starts = inr (inl refl)
order at_starts (at_step side s t i) = inl tt
order (at_step side s t i) at_starts = inr (inr tt)
order (at_step side s t i) (at_step side' s' t' j) = elim (pair_order s t s' t') [
  | inl b ↦ inl (inl b)
  | inr (inl e) ↦ elim (step_order side i side' j) [
    | inl l ↦ inl (inr (e.0, e.1, l))
    | inr (inl f) ↦ inr (inl (cc (e.0, e.1, f.0, f.1)))
    | inr (inr l) ↦ inr (inr (inr (sym e.0, sym e.1, l)))
  ]
  | inr (inr b) ↦ inr (inr (inl b))
]

module _ (L R : Family) (listed : Variants) (H : Table) where
  pub met_followed : (side : Side) (s t i v : ℕ) (x : Step) → At (mover side L R).steps i x → Meets L R listed H (at_step side s t i) v →
      StepFollowed (follower side L R) (facing side H) (own side s t) (other side s t) x v
  met_followed side s t i v x at (by_step {x = y} at' f) =
      subst (λ (z : Step). StepFollowed (follower side L R) (facing side H) (own side s t) (other side s t) z v) (at_same at' at) f

  starts_met : (v : ℕ) → Meets L R listed H at_starts v → H L.start R.start v ≡ true
  starts_met v (by_starts e) = e

  -- a step of a side's machine is followed where all spots pass
  side_follows : ((p : Spot) → Passes L R listed H p) → (side : Side) (v s t a r : ℕ) → H s t v ≡ true →
      Goes (machine (mover side L R) v) (own side s t) a r →
      Followed (machine (follower side L R) v) (λ q. facing side H (own side s t) q v) (λ q. facing side H r q v) (other side s t) a
  side_follows rules side v s t a r e g =
      let m = goes_step v (own side s t) a r (mover side L R).steps g in
      let p = at_of_mem m.listed in
      let met = rules (at_step side s t p.0) v (of_step p.1 m.leaves m.holds e) in
      subst₂ (λ (b q : ℕ). Followed (machine (follower side L R) v) (λ x. facing side H (own side s t) x v) (λ x. facing side H q x v) (other side s t) b)
      m.does m.enters (met_followed side s t p.0 v m.step p.1 met)

  bisimulation_of : ((p : Spot) → Passes L R listed H p) → (v : ℕ) → BranchingBisimulation (machine L v) (machine R v) (λ s t. H s t v)
  bisimulation_of rules v = record { left = λ s t a s' e g. side_follows rules left v s t a s' e g; right = λ s t a t' e g. side_follows rules right v s t a t' e g }

  -- a step that holds v, as a step of v's machine
  goes_at : (F : Family) (v i s : ℕ) (x : Step) → At F.steps i x → x.from ≡ s → x.held v ≡ true → Goes (machine F v) s x.action x.to
  goes_at F v i s x at e h = subst (λ (y : ℕ). Goes (machine F v) y x.action x.to) e (step_goes F v x (mem_of_at at) h)

  met_by : (v : ℕ) → BranchingBisimulation (machine L v) (machine R v) (λ s t. H s t v) → H L.start R.start v ≡ true →
      (p : Spot) → Asks L R listed H p v → Meets L R listed H p v
  met_by v b e at_starts (of_starts l) = by_starts e
  met_by v b e (at_step left s t i) (of_step {x = x} at from held h) =
      by_step at (b.left s t x.action x.to h (goes_at L v i s x at from held))
  met_by v b e (at_step right s t i) (of_step {x = x} at from held h) =
      by_step at (b.right s t x.action x.to h (goes_at R v i t x at from held))

  not_accepted : (p : Spot) (v : ℕ) → fault L R listed H p v ≡ granted [] → ⊥
  not_accepted at_starts v e = let h = ap (λ (a : Answer). a.values) e in let z : ◌≡◌ {A = ℕ} 0 1 = cc in omega arith
  not_accepted (at_step side s t i) v e = let h = ap (λ (a : Answer). a.values) e in let z : ◌≡◌ {A = ℕ} 0 1 = cc in omega arith

  same_variant : (p : Spot) (v u : ℕ) → FirstFault L R listed H p v → FirstFault L R listed H p u → v ≡ u
  same_variant p v u f g = elim (cases_order v u) [
    | inl e ↦ e
    | inr (inl l) ↦ absurd (f.unmet (g.least v l f.asked))
    | inr (inr l) ↦ absurd (g.unmet (f.least u l g.asked))
  ]

  one_answer : (a b : Answer) → Marked L R listed H a → Marked L R listed H b → a ≡ b
  one_answer a b (accepted r) (accepted r') = refl
  one_answer a b (accepted r) (faulty {p = q} {v = u} g) = absurd (g.unmet (r q u g.asked))
  one_answer a b (faulty {p} {v} f) (accepted r) = absurd (f.unmet (r p v f.asked))
  one_answer a b (faulty {p} {v} f) (faulty {p = q} {v = u} g) = elim (order p q) [
    | inl b ↦ absurd (f.unmet (g.earlier p b v f.asked))
    | inr (inl e) ↦
        let f' = subst (λ (x : Spot). FirstFault L R listed H x v) e f in
        cc (e, same_variant q v u f' g)
    | inr (inr b) ↦ absurd (g.unmet (f.earlier q b u g.asked))
  ]

  module _ (candidate : Candidate L R listed H) where
    asked_listed : (v : ℕ) (p : Spot) → Asks L R listed H p v → listed v ≡ true
    asked_listed v at_starts (of_starts l) = l
    asked_listed v (at_step side s t i) (of_step at from held h) = candidate.only_listed s t v h

    accepts : (a : Answer) → Marked L R listed H a → (a ≡ granted []) ↔ Bisimulates L R listed H
    accepts a (accepted rules) =
        (λ e v l. (bisimulation_of rules v, starts_met v (rules at_starts v (of_starts l))), λ h. refl)
    accepts a (faulty {p} {v} f) = (
      λ e. absurd (not_accepted p v e),
      λ h. let b = h v (asked_listed v p f.asked) in absurd (f.unmet (met_by v b.0 b.1 p f.asked)),
    )

    pub marking_is_exact : MarkingIsExact L R listed H
    marking_is_exact = record { accepts = accepts; one_answer = one_answer }
