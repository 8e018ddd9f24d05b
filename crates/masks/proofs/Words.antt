-- What a word holds after each call on masks.
use Rattle.std.proofs.Common.{◌≡◌, ℕ, zero, suc, ◌+◌, ◌-◌, ◌*◌, ◌/◌, ◌%◌, ◌^◌, ◌<◌, Bool, true, false, not, eqb, cond, Decides, w64, refl, sym, ap, pow-suc, arith}
use lib.Count.{ones, ones_step, ones-le, count_trailing_zeros}
use Rattle.std.specs.Bool.{then_some}
use Rattle.std.specs.Int.{bit_at}
use Rattle.std.proofs.lemmas.Nat.{one_shl}
use Rattle.std.proofs.lemmas.Nat.Bits.{bit_at_and, bit_at_or, bit_at_not, bit_at_ones, bit_at-pow_same, bit_at-pow_other, bit_at_lowest, bit_at-suc, bit_at-zero, bit_at-trailing_zeros, same_from_bits_below}
use Rattle.std.proofs.lemmas.Bool.Decides.{nat_tests}
use Rattle.theory.specs.Sets.{Variants, card}
use Rattle.theory.proofs.Cards.{card_same}
use Rattle.variants.specs.Sets.{capped, Least}
use Rattle.masks.specs.Words.{digit, word}

-- std's lemmas at 64 digits
pub one_digit : (v : ℕ) → v < 64 → (1 * 2 ^ v) % 2 ^ 64 ≡ 2 ^ v
one_digit v = one_shl v 64

pub all_digits : (v : ℕ) → v < 64 → bit_at (2 ^ 64 - 1) v ≡ 1
all_digits = bit_at_ones 64

pub other_digits : (n v : ℕ) → n < 2 ^ 64 → v < 64 → bit_at ((2 ^ 64 - 1) - n) v ≡ 1 - bit_at n v
other_digits = bit_at_not w64

-- words are equal where they hold the same numbers
pub word_same : (a b : ℕ) → a < 2 ^ 64 → b < 2 ^ 64 → Decides (eqb a b) ((v : ℕ) → word a v ≡ word b v)
word_same a b p q = (
  λ t v. let e : a ≡ b = grind (arith, nat_tests) in ap (λ n. word n v) e,
  λ e. let s = same_from_bits_below 64 a b p q (λ v l. let h = e v in grind (arith, nat_tests)) in grind (arith, nat_tests),
)

-- the smallest number held is the place of the lowest one, where there is one
lowest : (n : ℕ) (some : Bool) → some ≡ not (eqb n 0) → n < 2 ^ 64 → Least (word n) (then_some some (count_trailing_zeros 64 n))
lowest n true e q =
    let l = bit_at-trailing_zeros w64 n (grind (arith, nat_tests)) q in
    (omega arith, grind (arith, nat_tests), λ w h. let z = l.2 w h in grind (arith, nat_tests))
lowest n false e q = λ w h. let z : n ≡ 0 = grind (arith, nat_tests) in grind (arith, nat_tests, bit_at-zero w)

pub word_least : (n : ℕ) → n < 2 ^ 64 → Least (word n) (then_some (not (eqb n 0)) (count_trailing_zeros 64 n))
word_least n q = lowest n _ refl q

-- how many digits are ones
card_front : (n : ℕ) (X : Variants) → card (suc n) X ≡ cond (X 0) 1 0 + card n (λ v. X (suc v))
unfolding card
card_front zero X = omega arith
card_front (suc n) X = let e = card_front n X in omega arith

ones_card : (k n : ℕ) → n < 2 ^ k → ones n ≡ card k (digit n)
unfolding card ones
ones_card zero n h = let z : n ≡ 0 = omega arith in ap ones z
ones_card (suc k) n h =
    let s = pow-suc 2 k in
    let lower = ones_card k (n / 2) (omega arith) in
    let shifted = card_same k (digit (n / 2)) (λ v. digit n (suc v)) (λ v _. ap (λ d. eqb d 1) (sym (bit_at-suc n v))) in
    let front = card_front k (digit n) in
    let step = ones_step n in
    let low = bit_at_lowest n in
    grind (arith, nat_tests)

pub word_count : (n : ℕ) → n < 2 ^ 64 → ones n ≡ capped (card 64 (word n))
word_count n h =
    let same = card_same 64 (word n) (digit n) (λ v p. grind (arith, nat_tests)) in
    omega (arith, ones_card 64 n h, ones-le 64 n h)

-- by these the check finds what a call leaves held
pub ruleset held = (nat_tests, bit_at_and, bit_at_or, one_digit, all_digits, other_digits, bit_at-pow_same, bit_at-pow_other, word_count)
