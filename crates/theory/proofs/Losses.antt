-- What sweeps by a rule lose, and that they come to rest on what the rule's sets of pairs relate.
use Rattle.std.proofs.Common.{◌≡◌, ℕ, ◌+◌, ◌*◌, ◌<◌, ◌≤◌, true, false, not, ◌&&◌, ltb, sym, subst, inl, inr, mul_assoc}
use Rattle.std.proofs.lemmas.Bool.{and_parts, and_from, and_left, and_right, ltb-true, lt-ltb, both_ways, cases_Bool, not-true, not-false, not_from_true, not_from_false}
use Rattle.theory.specs.Sets.{Variants}
use Rattle.theory.specs.Counts.{Count}
use Rattle.theory.specs.Simulations.{Pairs}
use Rattle.theory.specs.Tables.{Table}
use Rattle.theory.specs.Sweeps.{Rule, rows_visited, removed}
use Rattle.theory.proofs.Cards.{card_zero, card_none, card_count, card_le, gone_adds, gone_nothing}
use Rattle.theory.proofs.Counting.{sum_zero, sum_none, sum_adds, sum_count, sum_bound, count_of, count_rows}
use Rattle.theory.proofs.Sweeps.{Within, Monotone, Holds, Closed, rows_less, rows_met, rows_hold}

-- a table of n rows of m pairs over V variants that begins with the list at the pairs of `first`
module _ (V n m : ℕ) (first : Pairs) (listed : Variants) where
  abbrev pub begins : Table
  begins s t v = (ltb s n && ltb t m) && (first s t && listed v)

  -- the table holds only what was there at first
  abbrev pub Inside : Table → Type 0
  Inside T = (s t v : ℕ) → T s t v ≡ true → begins s t v ≡ true

  pub record Put (s t v : ℕ) : Type 0 where
    pub left_in : s < n
    pub right_in : t < m
    pub agrees : first s t ≡ true
    pub is_listed : listed v ≡ true

  pub put : (s t v : ℕ) → begins s t v ≡ true → Put s t v
  put s t v e =
      let p = and_parts _ _ e in
      let q = and_parts _ _ p.0 in
      let r = and_parts _ _ p.1 in
      record { left_in = ltb-true _ _ q.0; right_in = ltb-true _ _ q.1; agrees = r.0; is_listed = r.1 }

  put_back : (s t v : ℕ) → s < n → t < m → first s t ≡ true → listed v ≡ true → begins s t v ≡ true
  put_back s t v ls lt a l = and_from _ _ (and_from _ _ (lt-ltb _ _ ls) (lt-ltb _ _ lt)) (and_from _ _ a l)

  -- what the table has lost
  abbrev pub lost_of : Table → ℕ
  lost_of T = removed V n m begins T

  pub lost_first : lost_of begins ≡ 0
  lost_first = sum_zero n _ (λ s ls. sum_zero m _ (λ t lt. gone_nothing V (begins s t)))

  -- what a table loses adds to the losses
  pub lost_adds : (T U : Table) → Inside T → ((v : ℕ) → Within v U T) → removed V n m T U + lost_of T ≡ lost_of U
  lost_adds T U inside less =
      sum_adds n _ _ _ (λ s ls. sum_adds m _ _ _ (λ t lt.
      gone_adds V (begins s t) (T s t) (U s t) (λ v. less v s t) (λ v. inside s t v)))

  pub lost_few : (T : Table) → lost_of T ≤ n * (m * V)
  lost_few T = sum_bound n (m * V) _ (λ s ls. sum_bound m V _ (λ t lt. card_le V _))

  module _ (rule : Rule) (mono : Monotone rule) where
    -- after one sweep
    abbrev after : Table → Table
    after T = rows_visited rule m T n

    -- the rule removes nothing
    abbrev pub Stable : Table → Type 0
    Stable T = (s t v : ℕ) → v < V → T s t v ≡ true → rule T s t v ≡ true

    pub quiet_within : (T : Table) → Inside T → removed V n m T (after T) ≡ 0 → (v : ℕ) → v < V → Within v T (after T)
    quiet_within T inside e v lv s t h =
        let p = put s t v (inside s t v h) in
        let z : (T s t v && not (after T s t v)) ≡ false =
        card_none V _ (sum_none m _ (sum_none n _ e s p.left_in) t p.right_in) v lv in
        not-false _ (rw h at z)

    -- a sweep that strikes nothing leaves a stable table
    pub quiet_stable : (T : Table) → Inside T → removed V n m T (after T) ≡ 0 → Stable (after T)
    quiet_stable T inside e s t v lv h =
        let p = put s t v (inside s t v (rows_less rule m v T n s t h)) in
        mono T (after T) v (quiet_within T inside e v lv) s t
        (rows_met rule mono m v T n s t p.left_in p.right_in h)

    -- the sets of pairs that the rule is about
    module _ (Post : ℕ → Pairs → Type 0)
        (post_in : (v : ℕ) (rel : Pairs) → Post v rel → (s t : ℕ) → rel s t ≡ true → (s < n) × (t < m) × (first s t ≡ true))
        (post_closed : (v : ℕ) (rel : Pairs) → Post v rel → Closed rule v rel)
        (stable_post : (T : Table) → Inside T → Stable T → (v : ℕ) → v < V → Post v (λ s t. T s t v)) where
      -- one of them relates the pair
      abbrev pub Reached : ℕ → ℕ → ℕ → Type 0
      Reached v s t = (rel : Pairs) × Post v rel × (rel s t ≡ true)

      -- the table holds every listed one
      abbrev pub Full : Table → Type 0
      Full T = (rel : Pairs) (v : ℕ) → Post v rel → listed v ≡ true → Holds v rel T

      pub full_first : Full begins
      full_first rel v post l s t e =
          let p = post_in v rel post s t e in
          put_back s t v p.0 p.1 p.2 l

      pub full_after : (T : Table) → Full T → Full (after T)
      full_after T full rel v post l = rows_hold rule mono v rel (post_closed v rel post) m T n (full rel v post l)

      -- a stable table loses nothing
      pub stable_quiet : (T : Table) → Inside T → Stable T → removed V n m T (after T) ≡ 0
      stable_quiet T inside stable =
          sum_zero n _ (λ s ls. sum_zero m _ (λ t lt. card_zero V _ (λ v lv. none_lost s t v lv)))
        where
          none_lost : (s t v : ℕ) → v < V → (T s t v && not (after T s t v)) ≡ false
          none_lost s t v lv = elim (cases_Bool (T s t v)) [
            | inl e ↦ and_right _ _ (not_from_true _ (rows_hold rule mono v (λ x y. T x y v) (post_closed v (λ x y. T x y v) (stable_post T inside stable v lv)) m T n (λ x y h. h) s t e))
            | inr e ↦ and_left _ _ e
          ]

      -- P marks the places, counted row by row and variant by variant, of the pairs and listed variants that nothing relates
      module _ (P : ℕ → Type 0)
          (marks : (s t v : ℕ) → t < m → v < V → first s t ≡ true → listed v ≡ true → (Reached v s t → ⊥) → P (s * (m * V) + (t * V + v)))
          (marked : (s t v : ℕ) → t < m → v < V → P (s * (m * V) + (t * V + v)) → (first s t ≡ true) × (listed v ≡ true) × (Reached v s t → ⊥)) where
        lost_marked : (T : Table) → Full T → (s t v : ℕ) → t < m → v < V → (begins s t v && not (T s t v)) ≡ true → P (s * (m * V) + (t * V + v))
        lost_marked T full s t v lt lv e =
            let q = and_parts _ _ e in
            let p = put s t v q.0 in
            marks s t v lt lv p.agrees p.is_listed (λ x. both_ways _ (not-true _ q.1) (full x.0 v x.1 p.is_listed s t x.2))

        -- a table that holds them all has lost at most what is marked
        pub lost_bound : (T : Table) (K : ℕ) → Full T → Count P ((n * m) * V) K → lost_of T ≤ K
        lost_bound T K full c =
            sum_count n (m * V) _
            (λ s ls j d. sum_count m V _ (λ t lt i b. card_count _ (λ v lv e. lost_marked T full s t v lt lv e) b) d)
            (subst (λ (x : ℕ). Count P x K) (mul_assoc n m V) c)

        -- and if it is stable, just that
        pub lost_count : (T : Table) → Inside T → Stable T → Full T → Count P ((n * m) * V) (lost_of T)
        lost_count T inside stable full =
            subst (λ (x : ℕ). Count P x (lost_of T)) (sym (mul_assoc n m V))
            (count_rows n (m * V) _ (λ s ls. count_rows m V _ (λ t lt.
            count_of (λ v. begins s t v && not (T s t v)) V (λ v lv e. lost_marked T full s t v lt lv e) (λ v lv e u. has s t v ls lt lv e u))))
          where
            has : (s t v : ℕ) → s < n → t < m → v < V → (begins s t v && not (T s t v)) ≡ false → P (s * (m * V) + (t * V + v)) → ⊥
            has s t v ls lt lv e u =
                let h = marked s t v lt lv u in
                let absent : T s t v ≡ false = elim (cases_Bool (T s t v)) [
                  | inl p ↦ absurd (h.2 ((λ x y. T x y v), stable_post T inside stable v lv, p))
                  | inr p ↦ p
                ] in
                both_ways _ e (and_from _ _ (put_back s t v ls lt h.0 h.1) (not_from_false _ absent))
