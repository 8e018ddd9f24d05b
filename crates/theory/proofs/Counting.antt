-- Sums and counts.
use Rattle.std.proofs.Common.{◌≡◌, ℕ, zero, suc, ◌+◌, ◌*◌, ◌/◌, ◌%◌, ◌<◌, ◌≤◌, true, false, cond, ◌⊎◌, sym, refl, ap, ◌∙◌, subst, ap₂, subst₂, inl, inr, add-zero, arith}
use lib.Arith.{digits_div, digits_mod}
use Rattle.std.proofs.lemmas.Bool.{cases_eq, cases_Bool}
use Rattle.theory.specs.Sets.{Variants, card}
use Rattle.theory.specs.Counts.{sum_below, Count, none, one_more, no_more}

pub sum_zero : (n : ℕ) (f : ℕ → ℕ) → ((i : ℕ) → i < n → f i ≡ 0) → sum_below n f ≡ 0
unfolding sum_below
sum_zero zero f h = refl
sum_zero (suc n) f h = omega (arith, sum_zero n f (λ i l. h i (omega arith)), h n (omega arith))

pub sum_none : (n : ℕ) (f : ℕ → ℕ) → sum_below n f ≡ 0 → (i : ℕ) → i < n → f i ≡ 0
unfolding sum_below
sum_none zero f e i l = absurd (omega arith)
sum_none (suc n) f e i l = elim (cases_eq i n) [ inl p ↦ rw p (omega arith) | inr p ↦ sum_none n f (omega arith) i (omega arith) ]

pub sum_same : (n : ℕ) (f g : ℕ → ℕ) → ((i : ℕ) → i < n → f i ≡ g i) → sum_below n f ≡ sum_below n g
unfolding sum_below
sum_same zero f g e = refl
sum_same (suc n) f g e = ap₂ (λ (x y : ℕ). x + y) (sum_same n f g (λ i l. e i (omega arith))) (e n (omega arith))

pub sum_adds : (n : ℕ) (f g h : ℕ → ℕ) → ((i : ℕ) → i < n → f i + g i ≡ h i) → sum_below n f + sum_below n g ≡ sum_below n h
unfolding sum_below
sum_adds zero f g h e = refl
sum_adds (suc n) f g h e = omega (arith, sum_adds n f g h (λ i l. e i (omega arith)), e n (omega arith))

pub sum_bound : (n c : ℕ) (f : ℕ → ℕ) → ((i : ℕ) → i < n → f i ≤ c) → sum_below n f ≤ n * c
unfolding sum_below
sum_bound zero c f h = omega arith
sum_bound (suc n) c f h = omega (arith, sum_bound n c f (λ i l. h i (omega arith)), h n (omega arith))

-- a count of the numbers below a + b, in its two parts
record Parts (P : ℕ → Type 0) (a b k : ℕ) : Type 0 where
  left : ℕ
  right : ℕ
  below : Count P a left
  above : Count (λ i. P (a + i)) b right
  whole : k ≡ left + right

parts_more : {P : ℕ → Type 0} (a b : ℕ) {n k : ℕ} → n ≡ suc (a + b) → ((j : ℕ) → Count P (a + b) j → Parts P a b j) → Count P n k → Parts P a (suc b) k
parts_more a b e split none = absurd (omega arith)
parts_more {P} a b e split (one_more {n = n} {k = k} p c) =
    let q : n ≡ a + b = omega arith in
    let d = split k (subst (λ (x : ℕ). Count P x k) q c) in
    record { left = d.left; right = suc d.right; below = d.below; above = one_more (subst P q p) d.above; whole = omega (arith, d.whole) }
parts_more {P} a b e split (no_more {n = n} {k = k} p c) =
    let q : n ≡ a + b = omega arith in
    let d = split k (subst (λ (x : ℕ). Count P x k) q c) in
    record { left = d.left; right = d.right; below = d.below; above = no_more (λ h. p (subst P (sym q) h)) d.above; whole = d.whole }

count_parts : {P : ℕ → Type 0} (a b : ℕ) {k : ℕ} → Count P (a + b) k → Parts P a b k
count_parts {P} a zero {k} c = record { left = k; right = 0; below = subst (λ (x : ℕ). Count P x k) (add-zero a) c; above = none; whole = omega arith }
count_parts a (suc b) c = parts_more a b (omega arith) (λ j d. count_parts a b {k = j} d) c

-- a sum over n rows of m numbers each
pub sum_count : {P : ℕ → Type 0} (n m : ℕ) (f : ℕ → ℕ) {k : ℕ} →
    ((i : ℕ) → i < n → (j : ℕ) → Count (λ x. P (i * m + x)) m j → f i ≤ j) → Count P (n * m) k → sum_below n f ≤ k
unfolding sum_below
sum_count zero m f h c = omega arith
sum_count {P} (suc n) m f {k} h c =
    let d = count_parts (n * m) m (subst (λ (x : ℕ). Count P x k) (omega arith) c) in
    omega (arith, sum_count n m f (λ i l. h i (omega arith)) d.below, h n (omega arith) d.right d.above, d.whole)

-- a property has one count
pub count_one : {P : ℕ → Type 0} {n k j : ℕ} → Count P n k → Count P n j → k ≡ j
count_one none none = refl
count_one (one_more p c) (one_more q d) = ap suc (count_one c d)
count_one (one_more p c) (no_more q d) = absurd (q p)
count_one (no_more p c) (one_more q d) = absurd (p q)
count_one (no_more p c) (no_more q d) = count_one c d

pub count_bound : {P : ℕ → Type 0} {n k : ℕ} → Count P n k → k ≤ n
count_bound none = omega arith
count_bound (one_more p c) = omega (arith, count_bound c)
count_bound (no_more p c) = omega (arith, count_bound c)

-- a set that decides P below n has its count
pub count_of : {P : ℕ → Type 0} (X : Variants) (n : ℕ) → ((i : ℕ) → i < n → X i ≡ true → P i) → ((i : ℕ) → i < n → X i ≡ false → P i → ⊥) → Count P n (card n X)
unfolding card
count_of X zero f g = none
count_of {P} X (suc n) f g = go (cases_Bool (X n)) (count_of X n (λ i l. f i (omega arith)) (λ i l. g i (omega arith)))
  where
    go : (X n ≡ true) ⊎ (X n ≡ false) → Count P n (card n X) → Count P (suc n) (card n X + cond (X n) 1 0)
    go (inl e) c = rw e (subst (λ (k : ℕ). Count P (suc n) k) (omega arith) (one_more (f n (omega arith) e) c))
    go (inr e) c = rw e (subst (λ (k : ℕ). Count P (suc n) k) (omega arith) (no_more (g n (omega arith) e) c))

count_join : {P : ℕ → Type 0} (a : ℕ) {b k j : ℕ} → Count P a k → Count (λ i. P (a + i)) b j → Count P (a + b) (k + j)
count_join {P} a {k = k} c none = subst₂ (λ (x y : ℕ). Count P x y) (omega arith) (omega arith) c
count_join {P} a {k = k} c (one_more {n = n} {k = j} p d) =
    let e : Count P (suc (a + n)) (suc (k + j)) = one_more p (count_join a c d) in
    subst₂ (λ (x y : ℕ). Count P x y) (omega arith) (omega arith) e
count_join {P} a {k = k} c (no_more {n = n} {k = j} p d) =
    let e : Count P (suc (a + n)) (k + j) = no_more p (count_join a c d) in
    subst (λ (x : ℕ). Count P x (k + j)) (omega arith) e

-- a count of n rows of m numbers each
pub count_rows : {P : ℕ → Type 0} (n m : ℕ) (f : ℕ → ℕ) → ((i : ℕ) → i < n → Count (λ x. P (i * m + x)) m (f i)) → Count P (n * m) (sum_below n f)
unfolding sum_below
count_rows {P} zero m f h = subst (λ (x : ℕ). Count P x 0) (omega arith) none
count_rows {P} (suc n) m f h =
    subst (λ (x : ℕ). Count P x (sum_below n f + f n)) (omega arith) (count_join (n * m) (count_rows n m f (λ i l. h i (omega arith))) (h n (omega arith)))

-- a place has one row and one column
pub digits_same : (m q r q' r' : ℕ) → r < m → r' < m → q * m + r ≡ q' * m + r' → (q ≡ q') × (r ≡ r')
digits_same m q r q' r' l l' e =
    (sym (digits_div q l) ∙ (ap (λ (x : ℕ). x / m) e ∙ digits_div q' l'), sym (digits_mod q l) ∙ (ap (λ (x : ℕ). x % m) e ∙ digits_mod q' l'))
