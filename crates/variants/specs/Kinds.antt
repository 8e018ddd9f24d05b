-- What is said of a kind.
use Rattle.std.specs.Prelude.{◌≤◌}
use Rattle.variants.specs.declared.VariantSet.{Ghosts as Kind}

-- the kind has at most 1024 variants, so that sizes and counts of its sets are not capped
abbrev pub Countable : {S : Type 0} → Kind S → Type 0
Countable K = K.variants ≤ 1024
