-- Laws of tests.
use Rattle.std.proofs.Common.{◌≡◌, ◌+◌, Bool, true, false, cond, not, ◌&&◌, ◌||◌, refl}
use Rattle.std.proofs.lemmas.Bool.{both_ways}

pub or_false : (x : Bool) → (x || false) ≡ x
or_false true = refl
or_false false = refl

pub or_assoc : (x y z : Bool) → (x || (y || z)) ≡ ((x || y) || z)
or_assoc true y z = refl
or_assoc false y z = refl

pub and_true : (x : Bool) → (x && true) ≡ x
and_true true = refl
and_true false = refl

pub and_assoc : (x y z : Bool) → (x && (y && z)) ≡ ((x && y) && z)
and_assoc true y z = refl
and_assoc false y z = refl

pub and_first : (x y : Bool) → (x && y) ≡ true → x ≡ true
and_first true y e = refl
and_first false y e = e

pub and_not_self : (x : Bool) → (x && not x) ≡ false
and_not_self true = refl
and_not_self false = refl

-- what b lost of a, beside what a lacked of g, is what b lacks of g
pub lost_bits : (g a b : Bool) → (b ≡ true → a ≡ true) → (a ≡ true → g ≡ true) →
    cond (a && not b) 1 0 + cond (g && not a) 1 0 ≡ cond (g && not b) 1 0
lost_bits true true true p q = refl
lost_bits true true false p q = refl
lost_bits true false true p q = absurd (both_ways false refl (p refl))
lost_bits true false false p q = refl
lost_bits false true b p q = absurd (both_ways false refl (q refl))
lost_bits false false true p q = absurd (both_ways false refl (p refl))
lost_bits false false false p q = refl
