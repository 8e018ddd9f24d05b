-- What sets in a row of memory stand for.
use Rattle.std.specs.Prelude.{ℕ, ◌+◌, ◌*◌, false, ◌&&◌, List, map, nat_lt, slice_index_or}
use Rattle.theory.specs.Sets.{Variants}
use Rattle.theory.specs.Tables.{Table}
use Rattle.variants.specs.declared.VariantSet.{Ghosts as Kind}

-- the numbers that the set at place k holds; none past the end
abbrev pub cell : {S : Type 0} → Kind S → List S → ℕ → Variants
cell K xs k v = slice_index_or (map K.holds xs) k (λ _. false) v

-- the sets as a table of n rows of m places each, row by row; nothing stands outside of it
abbrev pub grid : {S : Type 0} → Kind S → ℕ → ℕ → List S → Table
grid K n m xs s t v = (nat_lt s n && nat_lt t m) && cell K xs (s * m + t) v

-- a table cut to n rows and m columns
abbrev pub bounded : ℕ → ℕ → Table → Table
bounded n m T s t v = (nat_lt s n && nat_lt t m) && T s t v
