-- Sets of variants, by which numbers they hold.
use Rattle.std.specs.Prelude.{◌≡◌, ℕ, zero, suc, ◌+◌, ◌<◌, Bool, true, cond, not, ◌&&◌, List, [], ◌∷◌, ◌++◌}

-- a set of variants is a test on their numbers
abbrev pub Variants : Type 0
Variants = ℕ → Bool

-- a set of a kind with V variants holds only their numbers
abbrev pub OfKind : ℕ → Variants → Type 0
OfKind V X = (v : ℕ) → X v ≡ true → v < V

-- how many numbers below n the set holds
unfoldable pub card : ℕ → Variants → ℕ
card zero X = 0
card (suc n) X = card n X + cond (X n) 1 0

-- the numbers below n that the set holds, ascending
abbrev pub members : ℕ → Variants → List ℕ
members zero X = []
members (suc n) X = members n X ++ cond (X n) (n ∷ []) []

-- how many variants below V the set X holds and Y lacks
abbrev pub gone : ℕ → Variants → Variants → ℕ
gone V X Y = card V (λ v. X v && not (Y v))
