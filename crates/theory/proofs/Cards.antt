-- How many numbers a set holds, and which.
use Rattle.std.proofs.Common.{◌≡◌, ℕ, zero, suc, ◌+◌, ◌<◌, ◌≤◌, Bool, true, false, cond, not, ◌&&◌, ◌⊎◌, [], ◌∷◌, ◌++◌, sym, refl, ap, ◌∙◌, ap₂, inl, inr, arith}
use mathlib.Core.List.Memᴰ
use mathlib.Core.List.{Memᴰ}
use Rattle.std.proofs.lemmas.Bool.{cases_eq, cases_Bool}
use Rattle.theory.specs.Sets.{Variants, card, members, gone}
use Rattle.theory.specs.Counts.{Count, none, one_more, no_more}
use Rattle.theory.proofs.Booleans.{and_not_self, lost_bits}

-- sets that agree below n hold as many numbers below n
pub card_same : (n : ℕ) (X Y : Variants) → ((v : ℕ) → v < n → X v ≡ Y v) → card n X ≡ card n Y
unfolding card
card_same zero X Y e = refl
card_same (suc n) X Y e =
    ap₂ (λ (x y : ℕ). x + y) (card_same n X Y (λ v p. e v (omega arith))) (ap (λ (b : Bool). cond b 1 0) (e n (omega arith)))

-- a set that holds no number below n
pub card_zero : (n : ℕ) (X : Variants) → ((v : ℕ) → v < n → X v ≡ false) → card n X ≡ 0
unfolding card
card_zero zero X h = refl
card_zero (suc n) X h = rw (h n (omega arith)) (omega (arith, card_zero n X (λ v l. h v (omega arith))))

pub card_none : (n : ℕ) (X : Variants) → card n X ≡ 0 → (v : ℕ) → v < n → X v ≡ false
unfolding card
card_none zero X e v l = absurd (omega arith)
card_none (suc n) X e v l = elim (cases_eq v n) [
  | inl p ↦ elim (cases_Bool (X n)) [ inl h ↦ let e' : card n X + 1 ≡ 0 = rw h at e in absurd (omega arith) | inr h ↦ rw p h ]
  | inr p ↦ card_none n X (omega arith) v (omega arith)
]

bit_le : (b : Bool) → cond b 1 0 ≤ 1
bit_le true = omega arith
bit_le false = omega arith

pub card_le : (n : ℕ) (X : Variants) → card n X ≤ n
unfolding card
card_le zero X = omega arith
card_le (suc n) X = omega (arith, card_le n X, bit_le (X n))

card_adds : (n : ℕ) (X Y Z : Variants) → ((v : ℕ) → v < n → cond (X v) 1 0 + cond (Y v) 1 0 ≡ cond (Z v) 1 0) → card n X + card n Y ≡ card n Z
unfolding card
card_adds zero X Y Z e = refl
card_adds (suc n) X Y Z e = omega (arith, card_adds n X Y Z (λ v l. e v (omega arith)), e n (omega arith))

-- a set is narrowed twice: what went in all
pub gone_adds : (V : ℕ) (G X Y : Variants) → ((v : ℕ) → Y v ≡ true → X v ≡ true) → ((v : ℕ) → X v ≡ true → G v ≡ true) →
    gone V X Y + gone V G X ≡ gone V G Y
gone_adds V G X Y p q = card_adds V _ _ _ (λ v _. lost_bits (G v) (X v) (Y v) (p v) (q v))

pub gone_nothing : (V : ℕ) (X : Variants) → gone V X X ≡ 0
gone_nothing V X = card_zero V _ (λ v _. and_not_self (X v))

pub gone_same : (V : ℕ) (X X' Y Y' : Variants) → ((v : ℕ) → X v ≡ X' v) → ((v : ℕ) → Y v ≡ Y' v) → gone V X Y ≡ gone V X' Y'
gone_same V X X' Y Y' p q = card_same V _ _ (λ v _. ap₂ (λ (x y : Bool). x && not y) (p v) (q v))

-- a set of numbers that all meet P holds at most as many
pub card_count : {P : ℕ → Type 0} {n k : ℕ} (X : Variants) → ((v : ℕ) → v < n → X v ≡ true → P v) → Count P n k → card n X ≤ k
unfolding card
card_count X h none = omega arith
card_count X h (one_more {n = n} p c) =
    let b = card_count X (λ v l. h v (omega arith)) c in
    elim (cases_Bool (X n)) [ inl e ↦ rw e (omega arith) | inr e ↦ rw e (omega arith) ]
card_count X h (no_more {n = n} p c) =
    let b = card_count X (λ v l. h v (omega arith)) c in
    elim (cases_Bool (X n)) [ inl e ↦ absurd (p (h n (omega arith) e)) | inr e ↦ rw e (omega arith) ]

-- which numbers are members
pub members_out : (n : ℕ) (X : Variants) (v : ℕ) → Memᴰ v (members n X) → (v < n) × (X v ≡ true)
members_out zero X v h = absurd (Memᴰ.not-nil h)
members_out (suc n) X v h = go (Memᴰ.append_cases (members n X) h) (cases_Bool (X n)) (λ m. members_out n X v m)
  where
    go : Memᴰ v (members n X) ⊎ Memᴰ v (cond (X n) (n ∷ []) []) → (X n ≡ true) ⊎ (X n ≡ false) →
        (Memᴰ v (members n X) → (v < n) × (X v ≡ true)) → (v < suc n) × (X v ≡ true)
    go (inl m) b below = let r = below m in (omega (arith, r.0), r.1)
    go (inr m) (inl e) below =
        let p : v ≡ n = Memᴰ.eq_of_singleton (rw e at m) in
        (omega arith, ap X p ∙ e)
    go (inr m) (inr e) below = absurd (Memᴰ.not-nil (rw e at m))

pub members_in : (n : ℕ) (X : Variants) (v : ℕ) → v < n → X v ≡ true → Memᴰ v (members n X)
members_in zero X v l e = absurd (omega arith)
members_in (suc n) X v l e = go (cases_eq v n) (λ l'. members_in n X v l' e)
  where
    go : (v ≡ n) ⊎ (v ≡ n → ⊥) → (v < n → Memᴰ v (members n X)) → Memᴰ v (members n X ++ cond (X n) (n ∷ []) [])
    go (inl p) below = let h : X n ≡ true = sym (ap X p) ∙ e in rw h (Memᴰ.append_right (members n X) (Memᴰ.head p))
    go (inr p) below = Memᴰ.append_left (cond (X n) (n ∷ []) []) (below (omega arith))
