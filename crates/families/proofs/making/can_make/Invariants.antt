use Rattle.std.proofs.Common.{◌≡◌, min, drop}
use Rattle.families.specs.Making.{steps_answer, family_answer}
use Rattle.families.proofs.making.can_make.Given as goal

-- the steps that are left decide
abbrev pub invariant-loop-held : goal.invariant-loop-held
invariant-loop-held g l = family_answer l.states l.places l.steps ≡ steps_answer l.states (min 1024 l.places) l.held (drop l.held l.steps)
