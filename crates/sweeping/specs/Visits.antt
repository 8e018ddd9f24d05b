-- The rule by which a visit keeps variants.
use Rattle.theory.specs.Sweeps as theory
use Rattle.theory.specs.Sweeps.{keeps}
use Rattle.variants.specs.declared.VariantSet.{Ghosts as Kind}
use Rattle.families.specs.declared.Family.{Family}
use Rattle.families.specs.Drafts.{model}
use Rattle.sweeping.specs.declared.Sides.{Sides}

-- the rule of simulations of two closed families
abbrev pub rule_of : {S : Type 0} → Kind S → Family S → Family S → theory.Rule
rule_of K left right = keeps (model K left) (model K right)

-- the rule of simulations of the two sides
abbrev pub rule_of_sides : {S : Type 0} → Kind S → Sides S → theory.Rule
rule_of_sides K sides = rule_of K sides.left.now sides.right.now
