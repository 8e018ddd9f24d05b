-- Steps of Masks that are written out, and the family whose steps they are.
use Rattle.std.specs.Prelude.{◌≡◌, ℕ, Bool, true, ◌&&◌, List, [], ◌∷◌, map, nat_lt}
use Rattle.theory.specs.Systems as theory
use Rattle.masks.specs.declared.Mask.{Mask}
use Rattle.masks.specs.contracts.MaskVariantSet.TheImpl.{ghosts as Masks}
use Rattle.families.specs.declared.parts.Step.{Step}
use Rattle.families.specs.Models.{step_of}

-- a Mask has all of the numbers
abbrev pub all_below_64 : List ℕ → Bool
all_below_64 [] = true
all_below_64 (x ∷ xs) = nat_lt x 64 && all_below_64 xs

-- what a step means
abbrev pub meaning : Step Mask → theory.Step
meaning = step_of Masks

-- the steps, in their order, are those of the family
abbrev pub Lists : List (Step Mask) → theory.Family → Type 0
Lists steps F = map meaning steps ≡ F.steps
