-- From spot to spot, to marking's answer.
use Rattle.std.proofs.Common.{◌≡◌, ℕ, ◌+◌, ◌<◌, ◌≤◌, true, false, not, ◌&&◌, ◌⊎◌, [], sym, refl, ◌∙◌, subst, subst₂, inl, inr, arith}
use Rattle.std.proofs.lemmas.Bool.{cases_eq, cases_Bool, both_ways, and_parts, and_from, not-true, not_from_false}
use Rattle.theory.specs.Sets.{Variants}
use Rattle.theory.specs.Systems.{Step, Family}
use Rattle.theory.specs.Tables.{Table}
use Rattle.theory.specs.Answers.{granted}
use Rattle.theory.specs.Marks.{At, Side, left, right, mover, follower, own, other, facing, StepFollowed, Spot, at_starts, at_step, EarlierPair, Before, Asks, of_starts, of_step, Meets, by_starts, by_step, Passes, fault, Marked, accepted, faulty}
use Rattle.theory.specs.Judgements.{Due, AllFollowed, FirstUnfollowed, Clear}
use Rattle.theory.proofs.Marking.{at_same, at_below, met_followed}

-- a table has the same at a pair, whichever side looks
facing_pair : (side : Side) (H : Table) (s t v : ℕ) → facing side H (own side s t) (other side s t) v ≡ H s t v
facing_pair left H s t v = refl
facing_pair right H s t v = refl

module _ (L R : Family) (listed : Variants) (H : Table) where
  -- what a side's step at a pair asks, and has
  abbrev DueAt : Side → ℕ → ℕ → Step → ℕ → Type 0
  DueAt side s t = Due (follower side L R) (facing side H) (own side s t) (other side s t)

  abbrev FollowedAt : Side → ℕ → ℕ → Step → ℕ → Type 0
  FollowedAt side s t = StepFollowed (follower side L R) (facing side H) (own side s t) (other side s t)

  step_passes : (side : Side) (s t i : ℕ) → ((x : Step) → At (mover side L R).steps i x → (v : ℕ) → DueAt side s t x v → FollowedAt side s t x v) →
      Passes L R listed H (at_step side s t i)
  step_passes side s t i kept v (of_step {x = x} at from held has) = by_step at (kept x at v (from, held, facing_pair side H s t v ∙ has))

  asked_due : (side : Side) (s t i : ℕ) (x : Step) → At (mover side L R).steps i x → (v : ℕ) → Asks L R listed H (at_step side s t i) v → DueAt side s t x v
  asked_due side s t i x at v (of_step {x = y} at' from held has) =
      subst (λ (z : Step). DueAt side s t z v) (at_same at' at) (from, held, facing_pair side H s t v ∙ has)

  all_pass : (side : Side) (s t : ℕ) → AllFollowed (follower side L R) (facing side H) (own side s t) (other side s t) (mover side L R).steps →
      (i : ℕ) → Passes L R listed H (at_step side s t i)
  all_pass side s t all i = step_passes side s t i (λ x at v. all i x (at_below at) at v)

  -- the starts
  starts_pass : ((v : ℕ) → listed v ≡ true → H L.start R.start v ≡ true) → Passes L R listed H at_starts
  starts_pass h v (of_starts l) = by_starts (h v l)

  pub clear_starts : ((v : ℕ) → listed v ≡ true → H L.start R.start v ≡ true) → Clear L R listed H (at_step left 0 0 0)
  clear_starts h at_starts b = starts_pass h
  clear_starts h (at_step side s t i) (inl (inl l)) = absurd (omega arith)
  clear_starts h (at_step side s t i) (inl (inr p)) = absurd (omega (arith, p.1))
  clear_starts h (at_step left s t i) (inr p) = absurd (omega (arith, p.2))
  clear_starts h (at_step right s t i) (inr p) = absurd p.2

  starts_met : (v : ℕ) → Meets L R listed H at_starts v → H L.start R.start v ≡ true
  starts_met v (by_starts e) = e

  asked_listed : (v : ℕ) → Asks L R listed H at_starts v → listed v ≡ true
  asked_listed v (of_starts l) = l

  before_starts : (q : Spot) → Before q at_starts → Passes L R listed H q
  before_starts at_starts b = absurd b
  before_starts (at_step side s t i) b = absurd b

  pub starts_fault : (v : ℕ) → listed v ≡ true → (H L.start R.start v ≡ true → ⊥) → ((u : ℕ) → u < v → listed u ≡ true → H L.start R.start u ≡ true) →
      Marked L R listed H (fault L R listed H at_starts v)
  starts_fault v l unmet least =
      faulty {p = at_starts} {v = v}
      (record { asked = of_starts l; unmet = λ m. unmet (starts_met v m); least = λ u k a. by_starts (least u k (asked_listed u a)); earlier = before_starts })

  -- before a step of a side: before its first step, or an earlier step of the same side
  before_step : (side : Side) (s t i : ℕ) (q : Spot) → Before q (at_step side s t i) →
      Before q (at_step side s t 0) ⊎ ((j : ℕ) × (j < i) × (q ≡ at_step side s t j))
  before_step side s t i at_starts b = inl tt
  before_step side s t i (at_step side' s' t' j) (inl b) = inl (inl b)
  before_step left s t i (at_step left s' t' j) (inr b) = inr (j, b.2, cc (b.0, b.1))
  before_step left s t i (at_step right s' t' j) (inr b) = absurd b.2
  before_step right s t i (at_step left s' t' j) (inr b) = inl (inr (b.0, b.1, tt))
  before_step right s t i (at_step right s' t' j) (inr b) = inr (j, b.2, cc (b.0, b.1))

  -- the first fault, where everything before the side's steps at the pair passes
  pub side_fault : (side : Side) (s t : ℕ) → Clear L R listed H (at_step side s t 0) → (i v : ℕ) →
      FirstUnfollowed (follower side L R) (facing side H) (own side s t) (other side s t) (mover side L R).steps i v →
      Marked L R listed H (fault L R listed H (at_step side s t i) v)
  side_fault side s t clear i v f =
      let judged = f.judged in
      faulty {p = at_step side s t i} {v = v} (record {
        asked = of_step f.place judged.0.0 judged.0.1 (sym (facing_pair side H s t v) ∙ judged.0.2);
        unmet = λ m. judged.1 (met_followed L R listed H side s t i v f.step f.place m);
        least = λ u l a. by_step f.place (judged.2 u l (asked_due side s t i f.step f.place u a));
        earlier = λ q b. elim (before_step side s t i q b) [
          | inl e ↦ clear q e
          | inr k ↦ subst (Passes L R listed H) (sym k.2) (step_passes side s t k.0 (λ x at w. f.before k.0 x k.1 at w))
        ];
      })

  -- after the left steps come the right steps of the pair
  pub clear_right : (s t : ℕ) → Clear L R listed H (at_step left s t 0) → AllFollowed R H s t L.steps → Clear L R listed H (at_step right s t 0)
  clear_right s t clear all at_starts b = clear at_starts tt
  clear_right s t clear all (at_step side s' t' j) (inl b) = clear (at_step side s' t' j) (inl b)
  clear_right s t clear all (at_step left s' t' j) (inr b) =
      subst₂ (λ (x y : ℕ). Passes L R listed H (at_step left x y j)) (sym b.0) (sym b.1) (all_pass left s t all j)
  clear_right s t clear all (at_step right s' t' j) (inr b) = absurd (omega (arith, b.2))

  earlier_or_here : (s t s' t' : ℕ) → EarlierPair s' t' s (t + 1) → EarlierPair s' t' s t ⊎ ((s' ≡ s) × (t' ≡ t))
  earlier_or_here s t s' t' (inl l) = inl (inl l)
  earlier_or_here s t s' t' (inr p) = elim (cases_eq t' t) [ inl e ↦ inr (p.0, e) | inr n ↦ inl (inr (p.0, omega (arith, p.1))) ]

  -- after both comes the next pair of the row
  pub clear_next : (s t : ℕ) → Clear L R listed H (at_step left s t 0) → AllFollowed R H s t L.steps → AllFollowed L (facing right H) t s R.steps →
      Clear L R listed H (at_step left s (t + 1) 0)
  clear_next s t clear lefts rights at_starts b = clear at_starts tt
  clear_next s t clear lefts rights (at_step side s' t' j) (inl b) = elim (earlier_or_here s t s' t' b) [
    | inl e ↦ clear (at_step side s' t' j) (inl e)
    | inr e ↦ subst₂ (λ (x y : ℕ). Passes L R listed H (at_step side x y j)) (sym e.0) (sym e.1) (at_side side j)
  ]
    where
      at_side : (side : Side) (j : ℕ) → Passes L R listed H (at_step side s t j)
      at_side left j = all_pass left s t lefts j
      at_side right j = all_pass right s t rights j
  clear_next s t clear lefts rights (at_step left s' t' j) (inr b) = absurd (omega (arith, b.2))
  clear_next s t clear lefts rights (at_step right s' t' j) (inr b) = absurd b.2

  -- H has pairs of n by m states only
  module _ (n m : ℕ) (inside : (s t v : ℕ) → H s t v ≡ true → (s < n) × (t < m)) where
    asked_has : (side : Side) (s t i v : ℕ) → Asks L R listed H (at_step side s t i) v → H s t v ≡ true
    asked_has side s t i v (of_step at from held has) = has

    row_or_later : (s t s' : ℕ) → EarlierPair s t (s' + 1) 0 → t < m → EarlierPair s t s' m
    row_or_later s t s' (inr p) l = absurd (omega (arith, p.1))
    row_or_later s t s' (inl k) l = elim (cases_eq s s') [ inl e ↦ inr (e, l) | inr q ↦ inl (omega arith) ]

    -- after the row comes the next one
    pub clear_row : (s : ℕ) → Clear L R listed H (at_step left s m 0) → Clear L R listed H (at_step left (s + 1) 0 0)
    clear_row s clear at_starts b = clear at_starts tt
    clear_row s clear (at_step side s' t' i) (inl b) = λ v a.
        clear (at_step side s' t' i) (inl (row_or_later s' t' s b (inside s' t' v (asked_has side s' t' i v a)).1)) v a
    clear_row s clear (at_step left s' t' i) (inr p) = absurd (omega (arith, p.2))
    clear_row s clear (at_step right s' t' i) (inr p) = absurd p.2

    -- after the last row everything passed
    pub clear_all : Clear L R listed H (at_step left n 0 0) → Marked L R listed H (granted [])
    clear_all clear = accepted all
      where
        all : (p : Spot) → Passes L R listed H p
        all at_starts = clear at_starts tt
        all (at_step side s t i) = λ v a. clear (at_step side s t i) (inl (inl (inside s t v (asked_has side s t i v a)).0)) v a

-- the least listed variant that the pair of starts lacks; the kind has at most 1024 variants
module _ (V : ℕ) (few : V ≤ 1024) (X Y lacking : Variants) (kind : (v : ℕ) → X v ≡ true → v < V) (is : (v : ℕ) → lacking v ≡ (X v && not (Y v))) where
  has : (v : ℕ) → lacking v ≡ false → X v ≡ true → Y v ≡ true
  has v out h = elim (cases_Bool (Y v)) [ inl p ↦ p | inr p ↦ absurd (both_ways (lacking v) out (is v ∙ and_from _ _ h (not_from_false _ p))) ]

  pub lacks_none : ((v : ℕ) → v < 1024 → lacking v ≡ false) → (v : ℕ) → X v ≡ true → Y v ≡ true
  lacks_none none v h = let l = kind v h in has v (none v (omega arith)) h

  pub lacks_some : (v : ℕ) → lacking v ≡ true → ((u : ℕ) → u < v → lacking u ≡ false) →
      (X v ≡ true) × (Y v ≡ true → ⊥) × ((u : ℕ) → u < v → X u ≡ true → Y u ≡ true)
  lacks_some v e before =
      let p = and_parts _ _ (sym (is v) ∙ e) in
      (p.0, λ y. both_ways (Y v) (not-true _ p.1) y, λ u k h. has u (before u k) h)
