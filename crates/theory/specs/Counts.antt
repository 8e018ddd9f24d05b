-- Adding up, and counting what meets a property.
use Rattle.std.specs.Prelude.{ℕ, zero, suc, ◌+◌}

-- f 0 + .. + f (n - 1)
unfoldable pub sum_below : ℕ → (ℕ → ℕ) → ℕ
sum_below zero f = 0
sum_below (suc n) f = sum_below n f + f n

-- just k of the numbers below n meet P
pub data Count (P : ℕ → Type 0) : ℕ → ℕ → Type 0 where
  none : Count P 0 0
  one_more : {n k : ℕ} → P n → Count P n k → Count P (suc n) (suc k)
  no_more : {n k : ℕ} → (P n → ⊥) → Count P n k → Count P (suc n) k
