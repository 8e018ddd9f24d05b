-- The states that a step may enter.
use Rattle.std.specs.Prelude.{ℕ, Bool}
use Rattle.theory.specs.Sets.{Variants}
use Rattle.theory.specs.Tables.{Table}
use Rattle.theory.specs.Sweeps.{answers}
use Rattle.variants.specs.declared.VariantSet.{Ghosts as Kind}
use Rattle.families.specs.declared.parts.Step.{Step}
use Rattle.families.specs.Models.{step_of}

-- a table in which every state of the one side has the given partners
abbrev pub each_row : (ℕ → ℕ → Bool) → Table
each_row paired s t v = paired t v

-- the variants in which `answer` leaves t and answers `step`, into one of the given partners
abbrev pub answers_into : {S : Type 0} → Kind S → (ℕ → ℕ → Bool) → ℕ → Step S → Step S → Variants
answers_into K paired t step answer v = answers (each_row paired) t (step_of K step) v (step_of K answer)
