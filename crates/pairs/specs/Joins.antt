-- Two sets in one, side by side.
use Rattle.std.specs.Prelude.{ℕ, ◌-◌, cond, nat_lt}
use Rattle.theory.specs.Sets.{Variants}

-- the numbers of X below n, and from n on those of Y, shifted by n
abbrev pub joined : ℕ → Variants → Variants → Variants
joined n X Y v = cond (nat_lt v n) (X v) (Y (v - n))
