-- Sweeps by any rule that keeps no fewer variants on a larger table.
use Rattle.std.proofs.Common.{◌≡◌, ℕ, zero, suc, ◌+◌, ◌*◌, ◌<◌, ◌≤◌, true, not, ◌&&◌, eqb, sym, refl, ap, ◌∙◌, subst, ap₂, inl, inr, add-one, arith}
use Rattle.std.proofs.lemmas.Bool.{and_parts, and_from, and_left, and_right, eqb-true, eq-eqb, ne_eqb, both_ways, cases_Bool, cond_both, cond-false, cases_eq}
use Rattle.theory.specs.Sets.{gone}
use Rattle.theory.specs.Counts.{sum_below}
use Rattle.theory.specs.Simulations.{Pairs}
use Rattle.theory.specs.Tables.{Table}
use Rattle.theory.specs.Sweeps.{Rule, visited, row_visited, rows_visited, row_struck, rows_struck, removed}
use Rattle.theory.proofs.Cards.{card_le, gone_same}
use Rattle.theory.proofs.Counting.{sum_same}

-- what T holds of variant v, U holds too
abbrev pub Within : ℕ → Table → Table → Type 0
Within v T U = (s t : ℕ) → T s t v ≡ true → U s t v ≡ true

-- a larger table keeps no fewer variants
abbrev pub Monotone : Rule → Type 0
Monotone rule = (T U : Table) (v : ℕ) → Within v T U → (s t : ℕ) → rule T s t v ≡ true → rule U s t v ≡ true

-- T holds every pair of rel in variant v
abbrev pub Holds : ℕ → Pairs → Table → Type 0
Holds v rel T = (s t : ℕ) → rel s t ≡ true → T s t v ≡ true

-- the rule keeps every pair of rel, on the table of just these pairs
abbrev pub Closed : Rule → ℕ → Pairs → Type 0
Closed rule v rel = (s t : ℕ) → rel s t ≡ true → rule (λ x y _. rel x y) s t v ≡ true

module _ (rule : Rule) where
  -- a visit only removes, and leaves at its own pair only what the rule keeps
  visited_at : (T : Table) (s t s' t' v : ℕ) → visited rule T s t s' t' v ≡ true → (T s' t' v ≡ true) × ((s' ≡ s) → (t' ≡ t) → rule T s t v ≡ true)
  visited_at T s t s' t' v e = elim (cases_Bool (eqb s' s && eqb t' t)) [
    | inl h ↦
        let p = and_parts _ _ h in
        let ps : s' ≡ s = eqb-true _ _ p.0 in
        let pt : t' ≡ t = eqb-true _ _ p.1 in
        let q = and_parts _ _ (rw h at e) in
        (rw (ps, pt) q.0, λ _ _. q.1)
    | inr h ↦ (rw h at e, λ ps pt. absurd (both_ways _ h (and_from _ _ (eq-eqb _ _ ps) (eq-eqb _ _ pt))))
  ]

  row_less : (v : ℕ) (T : Table) (s k : ℕ) → Within v (row_visited rule T s k) T
  row_less v T s zero s' t' e = e
  row_less v T s (suc k) s' t' e = row_less v T s k s' t' (visited_at (row_visited rule T s k) s k s' t' v e).0

  -- a sweep only removes
  pub rows_less : (m v : ℕ) (T : Table) (k : ℕ) → Within v (rows_visited rule m T k) T
  rows_less m v T zero s' t' e = e
  rows_less m v T (suc k) s' t' e = rows_less m v T k s' t' (row_less v (rows_visited rule m T k) k m s' t' e)

  module _ (mono : Monotone rule) where
    row_met : (v : ℕ) (T : Table) (s k t : ℕ) → t < k → row_visited rule T s k s t v ≡ true → rule T s t v ≡ true
    row_met v T s zero t h e = absurd (omega arith)
    row_met v T s (suc k) t h e =
        let a = visited_at (row_visited rule T s k) s k s t v e in
        elim (cases_eq t k) [
          | inl p ↦ rw p (mono (row_visited rule T s k) T v (row_less v T s k) s k (a.1 refl p))
          | inr n ↦ row_met v T s k t (omega arith) a.0
        ]

    -- what the visits leave met the rule in the table before
    pub rows_met : (m v : ℕ) (T : Table) (k s t : ℕ) → s < k → t < m → rows_visited rule m T k s t v ≡ true → rule T s t v ≡ true
    rows_met m v T zero s t h ht e = absurd (omega arith)
    rows_met m v T (suc k) s t h ht e =
        let U = rows_visited rule m T k in
        elim (cases_eq s k) [
          | inl p ↦ mono U T v (rows_less m v T k) s t (row_met v U s m t ht (subst (λ (x : ℕ). row_visited rule U x m s t v ≡ true) (sym p) e))
          | inr n ↦ rows_met m v T k s t (omega arith) ht (row_less v U k m s t e)
        ]

    module _ (v : ℕ) (rel : Pairs) (closed : Closed rule v rel) where
      visited_holds : (T : Table) (s t : ℕ) → Holds v rel T → Holds v rel (visited rule T s t)
      visited_holds T s t holds s' t' e = cond_both (eqb s' s && eqb t' t) _ _ (λ b. b ≡ true)
          (λ h.
          let p = and_parts _ _ h in
          let ps : s' ≡ s = eqb-true _ _ p.0 in
          let pt : t' ≡ t = eqb-true _ _ p.1 in
          let e' : rel s t ≡ true = rw (ps, pt) at e in
          and_from _ _ (holds s t e') (mono (λ x y _. rel x y) T v holds s t (closed s t e')))
          (λ h. holds s' t' e)

      row_holds : (T : Table) (s k : ℕ) → Holds v rel T → Holds v rel (row_visited rule T s k)
      row_holds T s zero holds = holds
      row_holds T s (suc k) holds = visited_holds (row_visited rule T s k) s k (row_holds T s k holds)

      -- the visits leave every closed set of pairs
      pub rows_hold : (m : ℕ) (T : Table) (k : ℕ) → Holds v rel T → Holds v rel (rows_visited rule m T k)
      rows_hold m T zero holds = holds
      rows_hold m T (suc k) holds = row_holds (rows_visited rule m T k) k m (rows_hold m T k holds)

-- a visit changes no other row, and of its row no other pair
module _ (rule : Rule) where
  visited_row : (T : Table) (s t s' t' v : ℕ) → (s' ≡ s → ⊥) → visited rule T s t s' t' v ≡ T s' t' v
  visited_row T s t s' t' v ne = cond-false (eqb s' s && eqb t' t) _ (T s' t' v) (and_left _ _ (ne_eqb s' s ne))

  visited_col : (T : Table) (s t s' t' v : ℕ) → (t' ≡ t → ⊥) → visited rule T s t s' t' v ≡ T s' t' v
  visited_col T s t s' t' v ne = cond-false (eqb s' s && eqb t' t) _ (T s' t' v) (and_right _ _ (ne_eqb t' t ne))

  row_other : (T : Table) (s k s' t' v : ℕ) → (s' ≡ s → ⊥) → row_visited rule T s k s' t' v ≡ T s' t' v
  row_other T s zero s' t' v ne = refl
  row_other T s (suc k) s' t' v ne = visited_row (row_visited rule T s k) s k s' t' v ne ∙ row_other T s k s' t' v ne

  row_later : (T : Table) (s k t v : ℕ) → k ≤ t → row_visited rule T s k s t v ≡ T s t v
  row_later T s zero t v l = refl
  row_later T s (suc k) t v l =
      visited_col (row_visited rule T s k) s k s t v (λ e. omega arith) ∙ row_later T s k t v (omega arith)

  row_done : (T : Table) (s m t v : ℕ) → t < m → row_visited rule T s m s t v ≡ row_visited rule T s (suc t) s t v
  row_done T s zero t v l = absurd (omega arith)
  row_done T s (suc m) t v l = elim (cases_eq t m) [
    | inl e ↦ ap (λ k. row_visited rule T s (suc k) s t v) (sym e)
    | inr ne ↦ visited_col (row_visited rule T s m) s m s t v ne ∙ row_done T s m t v (omega arith)
  ]

  rows_later : (m : ℕ) (T : Table) (k s t v : ℕ) → k ≤ s → rows_visited rule m T k s t v ≡ T s t v
  rows_later m T zero s t v l = refl
  rows_later m T (suc k) s t v l =
      row_other (rows_visited rule m T k) k m s t v (λ e. omega arith) ∙ rows_later m T k s t v (omega arith)

  rows_done : (m : ℕ) (T : Table) (n s t v : ℕ) → s < n → rows_visited rule m T n s t v ≡ rows_visited rule m T (suc s) s t v
  rows_done m T zero s t v l = absurd (omega arith)
  rows_done m T (suc n) s t v l = elim (cases_eq s n) [
    | inl e ↦ ap (λ k. rows_visited rule m T (suc k) s t v) (sym e)
    | inr ne ↦ row_other (rows_visited rule m T n) n m s t v ne ∙ rows_done m T n s t v (omega arith)
  ]

module _ (V : ℕ) (rule : Rule) where
  -- what a row of visits strikes is what its pairs lose over the row
  row_struck_is : (T : Table) (s k : ℕ) → row_struck V rule T s k ≡ sum_below k (λ t. gone V (T s t) (row_visited rule T s (suc t) s t))
  unfolding sum_below
  row_struck_is T s zero = refl
  row_struck_is T s (suc k) =
      ap₂ (λ (x y : ℕ). x + y) (row_struck_is T s k)
      (gone_same V _ _ _ _ (λ v. row_later rule T s k k v (omega arith)) (λ v. refl))

  row_struck_all : (T : Table) (s m : ℕ) → row_struck V rule T s m ≡ sum_below m (λ t. gone V (T s t) (row_visited rule T s m s t))
  row_struck_all T s m =
      row_struck_is T s m
      ∙ sum_same m _ _ (λ t l. gone_same V _ _ _ _ (λ v. refl) (λ v. sym (row_done rule T s m t v l)))

  rows_struck_is : (m : ℕ) (T : Table) (k : ℕ) →
      rows_struck V rule m T k ≡ sum_below k (λ s. sum_below m (λ t. gone V (T s t) (rows_visited rule m T (suc s) s t)))
  unfolding sum_below
  rows_struck_is m T zero = refl
  rows_struck_is m T (suc k) =
      ap₂ (λ (x y : ℕ). x + y) (rows_struck_is m T k)
      (row_struck_all (rows_visited rule m T k) k m
      ∙ sum_same m _ _ (λ t l. gone_same V _ _ _ _ (λ v. rows_later rule m T k k t v (omega arith)) (λ v. refl)))

  -- what all visits strike is what the table loses
  pub rows_struck_all : (m : ℕ) (T : Table) (n : ℕ) → rows_struck V rule m T n ≡ removed V n m T (rows_visited rule m T n)
  rows_struck_all m T n =
      rows_struck_is m T n
      ∙ sum_same n _ _ (λ s l. sum_same m _ _ (λ t _.
      gone_same V _ _ _ _ (λ v. refl) (λ v. sym (rows_done rule m T n s t v l))))

  -- at most V a pair
  pub row_struck_few : (T : Table) (s k : ℕ) → row_struck V rule T s k ≤ k * V
  row_struck_few T s zero = omega arith
  row_struck_few T s (suc k) = omega (arith, row_struck_few T s k, card_le V (λ v. row_visited rule T s k s k v && not (row_visited rule T s (suc k) s k v)))

  -- one visit more of a row
  pub row_more : (T : Table) (s k : ℕ) (mid new : Table) → mid ≡ row_visited rule T s k → new ≡ visited rule mid s k →
      new ≡ row_visited rule T s (k + 1)
  row_more T s k mid new p q = q ∙ ap (λ (X : Table). visited rule X s k) p ∙ ap (row_visited rule T s) (sym (add-one k))

  pub row_struck_more : (T : Table) (s k : ℕ) (mid new : Table) (n r : ℕ) → mid ≡ row_visited rule T s k → new ≡ visited rule mid s k →
      n ≡ row_struck V rule T s k → r ≡ gone V (mid s k) (new s k) → n + r ≡ row_struck V rule T s (k + 1)
  row_struck_more T s k mid new n r p q e f =
      ap₂ (λ (x y : ℕ). x + y) e (f ∙ ap₂ (λ (X Y : Table). gone V (X s k) (Y s k)) p (q ∙ ap (λ (X : Table). visited rule X s k) p))
      ∙ ap (row_struck V rule T s) (sym (add-one k))

  -- one row more
  pub rows_more : (m : ℕ) (T : Table) (k : ℕ) (mid new : Table) → mid ≡ rows_visited rule m T k → new ≡ row_visited rule mid k m →
      new ≡ rows_visited rule m T (k + 1)
  rows_more m T k mid new p q = q ∙ ap (λ (X : Table). row_visited rule X k m) p ∙ ap (rows_visited rule m T) (sym (add-one k))

  pub rows_struck_more : (m : ℕ) (T : Table) (k : ℕ) (mid : Table) (n r : ℕ) → mid ≡ rows_visited rule m T k →
      n ≡ rows_struck V rule m T k → r ≡ row_struck V rule mid k m → n + r ≡ rows_struck V rule m T (k + 1)
  rows_struck_more m T k mid n r p e f =
      ap₂ (λ (x y : ℕ). x + y) e (f ∙ ap (λ (X : Table). row_struck V rule X k m) p) ∙ ap (rows_struck V rule m T) (sym (add-one k))
