-- Two sets side by side, in one.
use Rattle.std.proofs.Common.{◌≡◌, ℕ, zero, suc, ◌+◌, ◌-◌, Bool, cond, ltb, sym, ap, ◌∙◌, ap₂, add-zero, add-suc, arith}
use Rattle.std.proofs.lemmas.Bool.Decides.{nat_tests}
use Rattle.theory.specs.Sets.{Variants, card}
use Rattle.theory.proofs.Cards.{card_same}
use Rattle.pairs.specs.Joins.{joined}

module _ (m : ℕ) (X Y : Variants) where
  joined_second : (v : ℕ) → joined m X Y (m + v) ≡ Y v
  joined_second v =
      let away : (m + v) - m ≡ v = omega arith in
      let f = ap Y away in
      grind (arith, nat_tests)

  -- both halves together hold as many numbers as each apart
  pub card_joined : (n : ℕ) → card (m + n) (joined m X Y) ≡ card m X + card n Y
  unfolding card
  card_joined zero =
      let z = ap (λ (k : ℕ). card k (joined m X Y)) (add-zero m) in
      let e = card_same m (joined m X Y) X (λ v p. grind (arith, nat_tests)) in
      omega arith
  card_joined (suc n) =
      let z = ap (λ (k : ℕ). card k (joined m X Y)) (add-suc m n) in
      let e = card_joined n in
      let f = ap {B = ℕ} (λ (b : Bool). cond b 1 0) (joined_second n) in
      omega arith

-- two joined sets are the same where their halves are, and then so are their second halves
module _ (m : ℕ) (X X' Y Y' : Variants) where
  pub joined_same : ((v : ℕ) → X v ≡ X' v) → ((v : ℕ) → Y v ≡ Y' v) → (v : ℕ) → joined m X Y v ≡ joined m X' Y' v
  joined_same p q v = ap₂ (λ (x y : Bool). cond (ltb v m) x y) (p v) (q (v - m))

  pub same_second : ((v : ℕ) → joined m X Y v ≡ joined m X' Y' v) → (v : ℕ) → Y v ≡ Y' v
  same_second e v = sym (joined_second m X Y v) ∙ e (m + v) ∙ joined_second m X' Y' v
