-- What a machine word holds.
use Rattle.std.specs.Prelude.{ℕ, ◌/◌, ◌%◌, ◌^◌, Bool, ◌&&◌, ◌==◌, nat_lt}
use Rattle.theory.specs.Sets.{Variants}

-- the binary digit of n at 2 ^ v is 1
abbrev pub digit : ℕ → ℕ → Bool
digit n v = n / 2 ^ v % 2 == 1

-- a word of 64 digits holds the places of its ones
abbrev pub word : ℕ → Variants
word n v = nat_lt v 64 && digit n v
