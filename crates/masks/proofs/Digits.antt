-- The binary digits of a number below 2 ^ k, for any k: of its complement, and the lowest one. The library has the
-- same of words.
use Rattle.std.proofs.Common.{◌≡◌, ℕ, zero, suc, ◌-◌, ◌/◌, ◌%◌, ◌^◌, ◌<◌, Bool, true, false, not, eqb, sym, refl, ap, ◌∙◌, pow-suc, div-one, one-add, arith}
use lib.Count.{count_trailing_zeros, under}
use Rattle.std.proofs.lemmas.Nat.{shr-shr}
use Rattle.std.proofs.lemmas.Bool.{eq-eqb, ne_eqb}
use Rattle.std.proofs.lemmas.Bool.Decides.{nat_tests}
use Rattle.masks.specs.Words.{digit}

-- the lowest digit, and the others
abbrev low : ℕ → Bool
low n = eqb (n % 2) 1

digit_zero : (n : ℕ) → digit n 0 ≡ low n
digit_zero n = ap low (div-one n)

digit_suc : (n v : ℕ) → digit n (suc v) ≡ digit (n / 2) v
digit_suc n v = ap low (ap (λ (k : ℕ). n / 2 ^ k) (sym (one-add v)) ∙ sym (shr-shr n 1 v))

-- not, at k digits
pub digit_not : (k b v : ℕ) → v < k → b < 2 ^ k → digit ((2 ^ k - 1) - b) v ≡ not (digit b v)
digit_not zero b v p q = absurd (omega arith)
digit_not (suc k) b zero p q =
    let e = pow-suc 2 k in
    digit_zero ((2 ^ suc k - 1) - b) ∙ grind (arith, nat_tests) ∙ sym (ap not (digit_zero b))
digit_not (suc k) b (suc v) p q =
    let e = pow-suc 2 k in
    let half : ((2 ^ suc k - 1) - b) / 2 ≡ (2 ^ k - 1) - b / 2 = omega arith in
    digit_suc ((2 ^ suc k - 1) - b) v ∙ ap (λ (n : ℕ). digit n v) half
    ∙ digit_not k (b / 2) v (omega arith) (omega arith) ∙ sym (ap not (digit_suc b v))

-- the lowest one among the digits
pub record Lowest (k n t : ℕ) : Type 0 where
  pub below : t < k
  pub set : digit n t ≡ true
  pub first : (w : ℕ) → w < t → digit n w ≡ false

lowest_more : (k n r t : ℕ) → n % 2 ≡ r → (r ≡ 0 → Lowest k (n / 2) t) → Lowest (suc k) n (under r t)
lowest_more k n zero t e rest =
    let l = rest refl in
    record {
      below = omega arith;
      set = digit_suc n t ∙ l.set;
      first = λ w h. first_of w h;
    }
  where
    first_of : (w : ℕ) → w < suc t → digit n w ≡ false
    first_of zero h = digit_zero n ∙ ne_eqb (n % 2) 1 (λ i. omega arith)
    first_of (suc w) h = digit_suc n w ∙ (rest refl).first w (omega arith)
lowest_more k n (suc r) t e rest =
    record {
      below = omega arith;
      set = digit_zero n ∙ eq-eqb (n % 2) 1 (omega arith);
      first = λ w h. absurd (omega arith);
    }

pub lowest : (k n : ℕ) → 0 < n → n < 2 ^ k → Lowest k n (count_trailing_zeros k n)
unfolding count_trailing_zeros
lowest zero n p q = absurd (omega arith)
lowest (suc k) n p q =
    let s = pow-suc 2 k in
    lowest_more k n (n % 2) (count_trailing_zeros k (n / 2)) refl (λ e. lowest k (n / 2) (omega arith) (omega arith))
