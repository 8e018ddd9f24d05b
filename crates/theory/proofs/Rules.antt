-- The sweep rule, and the simulations that it keeps.
use Rattle.std.proofs.Common.{◌≡◌, ℕ, ◌<◌, Bool, true, not, ◌&&◌, ◌||◌, eqb, List, [], ◌∷◌, ◌++◌, sym, refl, ap, ◌∙◌, subst, ap₂, inl, inr}
use mathlib.Core.List.{Memᴰ}
use Rattle.std.proofs.lemmas.Bool.{and_parts, and_from, or_cases, or_left, or_right, eqb-true, eq-eqb, both_ways, cases_Bool, not_from_false, not-true}
use Rattle.theory.specs.Sets.{Variants}
use Rattle.theory.specs.Systems.{Step, Family, machine, agree, Goes}
use Rattle.theory.specs.Simulations.{Pairs, Simulation}
use Rattle.theory.specs.Tables.{Table, Answered, SweepRule, FamilySimulation}
use Rattle.theory.specs.Sweeps.{answers, answered, applies, kept, keeps}
use Rattle.theory.proofs.Booleans.{or_false, or_assoc, and_true, and_assoc}
use Rattle.theory.proofs.Systems.{step_goes, goes_step}
use Rattle.theory.proofs.Sweeps.{Monotone, Closed}

-- one step more in a list
pub answered_push : (T : Table) (t : ℕ) (l : Step) (v : ℕ) (rs : List Step) (r : Step) →
    answered (rs ++ r ∷ []) T t l v ≡ (answered rs T t l v || answers T t l v r)
answered_push T t l v [] r = or_false (answers T t l v r)
answered_push T t l v (x ∷ rs) r =
    ap (λ (b : Bool). answers T t l v x || b) (answered_push T t l v rs r)
    ∙ or_assoc (answers T t l v x) (answered rs T t l v) (answers T t l v r)

pub kept_push : (rs : List Step) (T : Table) (s t v : ℕ) (ls : List Step) (l : Step) →
    kept (ls ++ l ∷ []) rs T s t v ≡ (kept ls rs T s t v && (not (applies s v l) || answered rs T t l v))
kept_push rs T s t v [] l = and_true (not (applies s v l) || answered rs T t l v)
kept_push rs T s t v (x ∷ ls) l =
    ap (λ (b : Bool). (not (applies s v x) || answered rs T t x v) && b) (kept_push rs T s t v ls l)
    ∙ and_assoc (not (applies s v x) || answered rs T t x v) (kept ls rs T s t v) (not (applies s v l) || answered rs T t l v)

-- of a table only the row of the entered left state is read
pub answered_row : (T U : Table) (t : ℕ) (l : Step) (v : ℕ) → ((y : ℕ) → T l.to y v ≡ U l.to y v) → (rs : List Step) →
    answered rs T t l v ≡ answered rs U t l v
answered_row T U t l v e [] = refl
answered_row T U t l v e (r ∷ rs) =
    ap₂ (λ (x y : Bool). (eqb r.from t && (eqb r.action l.action && (r.held v && x))) || y) (e r.to) (answered_row T U t l v e rs)

pub answered_out : (R : Family) (T : Table) (t : ℕ) (l : Step) (v : ℕ) → answered R.steps T t l v ≡ true → Answered R T t v l
answered_out R T t l v e = go R.steps e (λ r m. m)
  where
    go : (rs : List Step) → answered rs T t l v ≡ true → ((r : Step) → Memᴰ r rs → Memᴰ r R.steps) → Answered R T t v l
    go [] e among = absurd (both_ways _ refl e)
    go (r ∷ rs) e among = elim (or_cases (answers T t l v r) (answered rs T t l v) e) [
      | inl h ↦
          let p = and_parts _ _ h in
          let q = and_parts _ _ p.1 in
          let u = and_parts _ _ q.1 in
          record { step = r; listed = among r (Memᴰ.head refl); leaves = eqb-true _ _ p.0; does = eqb-true _ _ q.0; holds = u.0; after = u.1 }
      | inr h ↦ go rs h (λ x m. among x (Memᴰ.tail m))
    ]

pub answered_in : {r : Step} {rs : List Step} (T : Table) (t : ℕ) (l : Step) (v : ℕ) → Memᴰ r rs →
    r.from ≡ t → r.action ≡ l.action → r.held v ≡ true → T l.to r.to v ≡ true → answered rs T t l v ≡ true
answered_in T t l v (Memᴰ.head e) from does held after =
    or_left _ _ (subst (λ (r : Step). answers T t l v r ≡ true) e (and_from _ _ (eq-eqb _ _ from) (and_from _ _ (eq-eqb _ _ does) (and_from _ _ held after))))
answered_in T t l v (Memᴰ.tail m) from does held after = or_right _ _ (answered_in T t l v m from does held after)

kept_out : {l : Step} {ls : List Step} (rs : List Step) (T : Table) (s t v : ℕ) → kept ls rs T s t v ≡ true →
    Memᴰ l ls → l.from ≡ s → l.held v ≡ true → answered rs T t l v ≡ true
kept_out rs T s t v e (Memᴰ.head {x = y} p) from held =
    subst (λ (z : Step). answered rs T t z v ≡ true) (sym p) (elim (or_cases _ _ (and_parts _ _ e).0) [
      | inl h ↦ absurd (both_ways (applies s v y) (not-true _ h) (subst (λ (z : Step). applies s v z ≡ true) p (and_from _ _ (eq-eqb _ _ from) held)))
      | inr h ↦ h
    ])
kept_out rs T s t v e (Memᴰ.tail m) from held = kept_out rs T s t v (and_parts _ _ e).1 m from held

kept_in : (ls rs : List Step) (T : Table) (s t v : ℕ) →
    ((l : Step) → Memᴰ l ls → l.from ≡ s → l.held v ≡ true → answered rs T t l v ≡ true) → kept ls rs T s t v ≡ true
kept_in [] rs T s t v f = refl
kept_in (l ∷ ls) rs T s t v f =
    and_from _ _ (elim (cases_Bool (applies s v l)) [
      | inl e ↦ let p = and_parts _ _ e in or_right _ _ (f l (Memᴰ.head refl) (eqb-true _ _ p.0) p.1)
      | inr e ↦ or_left _ _ (not_from_false _ e)
    ])
    (kept_in ls rs T s t v (λ k m. f k (Memᴰ.tail m)))

module _ (L R : Family) where
  -- the test is the rule
  pub keeps_rule : (T : Table) (s t v : ℕ) → keeps L R T s t v ≡ true → SweepRule L R T s t v
  keeps_rule T s t v e x m from held = answered_out R T t x v (kept_out R.steps T s t v e m from held)

  rule_keeps : (T : Table) (s t v : ℕ) → SweepRule L R T s t v → keeps L R T s t v ≡ true
  rule_keeps T s t v rule = kept_in L.steps R.steps T s t v (λ x m from held.
      let a = rule x m from held in
      answered_in T t x v a.listed a.leaves a.does a.holds a.after)

  pub keeps_monotone : Monotone (keeps L R)
  keeps_monotone T U v w s t e = rule_keeps U s t v (λ x m from held.
      let a = keeps_rule T s t v e x m from held in
      record { step = a.step; listed = a.listed; leaves = a.leaves; does = a.does; holds = a.holds; after = w x.to a.step.to a.after })

  -- the rule keeps every simulation
  pub simulation_closed : (v : ℕ) (rel : Pairs) → Simulation (machine L v) (machine R v) rel → Closed (keeps L R) v rel
  simulation_closed v rel sim s t e = rule_keeps (λ x y _. rel x y) s t v (λ l m from held.
      let f = sim.answers s t l.action l.to e (subst (λ (x : ℕ). Goes (machine L v) x l.action l.to) from (step_goes L v l m held)) in
      let r = goes_step v t l.action f.0 R.steps f.1 in
      record {
        step = r.step;
        listed = r.listed;
        leaves = r.leaves;
        does = r.does;
        holds = r.holds;
        after = subst (λ (x : ℕ). rel l.to x ≡ true) (sym r.enters) f.2;
      })

  -- where every pair that holds v meets the rule, they are a simulation
  pub rule_simulation : (T : Table) (v : ℕ) →
      ((s t : ℕ) → T s t v ≡ true → (s < L.states) × (t < R.states) × (agree L R s t ≡ true)) →
      ((s t : ℕ) → T s t v ≡ true → SweepRule L R T s t v) → Simulation (machine L v) (machine R v) (λ s t. T s t v)
  unfolding agree
  rule_simulation T v inside rule =
      record { left_in = λ s t e. (inside s t e).0; right_in = λ s t e. (inside s t e).1; agrees = λ s t e. (inside s t e).2; answers = follows }
    where
      follows : (s t a s' : ℕ) → T s t v ≡ true → Goes (machine L v) s a s' → (t' : ℕ) × Goes (machine R v) t a t' × (T s' t' v ≡ true)
      follows s t a s' e g =
          let m = goes_step v s a s' L.steps g in
          let r = rule s t e m.step m.listed m.leaves m.holds in
          let h = step_goes R v r.step r.listed r.holds in (
            r.step.to,
            rw (r.leaves, r.does ∙ m.does) at h,
            subst (λ (x : ℕ). T x r.step.to v ≡ true) m.enters r.after,
          )

  -- a family simulation is a simulation in each variant
  pub in_each_variant : (listed : Variants) (T : Table) → FamilySimulation L R listed T → (v : ℕ) → Simulation (machine L v) (machine R v) (λ s t. T s t v)
  in_each_variant listed T f v =
      rule_simulation T v (λ s t e. (f.left_in s t v e, f.right_in s t v e, f.agrees s t v e)) (λ s t e. f.rule s t v e)
