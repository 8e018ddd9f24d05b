-- What the calls on variant sets answer, over tests on numbers.
use Rattle.std.specs.Prelude.{◌≡◌, ℕ, ◌<◌, min, true, false, ◌&&◌, Some, None, Option, ◌==◌, nat_lt}
use Rattle.theory.specs.Sets.{Variants}

-- a number as count and size give it: 1025 stands for anything above 1024
abbrev pub capped : ℕ → ℕ
capped n = min n 1025

-- the set of just v, in a kind with n variants; nothing where v is no number of the kind, or above 1023
abbrev pub just : ℕ → ℕ → Variants
just n v w = w == v && (nat_lt v n && nat_lt v 1024)

-- the smallest number that the set holds, or None where it holds none up to 1023
abbrev pub Least : Variants → Option ℕ → Type 0
Least X (Some v) = (v < 1024) × (X v ≡ true) × ((w : ℕ) → w < v → X w ≡ false)
Least X None = (w : ℕ) → w < 1024 → X w ≡ false
