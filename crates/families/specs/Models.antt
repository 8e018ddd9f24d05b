-- What steps and parts mean: the theory's family.
use Rattle.std.specs.Prelude.{ℕ, cond, List, [], ◌∷◌, ◌++◌, map, take, ◌==◌, slice_index}
use Rattle.theory.specs.Systems as theory
use Rattle.variants.specs.declared.VariantSet.{Ghosts as Kind}
use Rattle.families.specs.declared.parts.Step.{Step}
use Rattle.families.specs.declared.parts.Parts.{Parts}

-- a step, with its set as a test on numbers
abbrev pub step_of : {S : Type 0} → Kind S → Step S → theory.Step
step_of K x = record { from = x.from; action = x.action; to = x.to; held = K.holds x.set }

-- the steps that are held
abbrev pub held_steps : {S : Type 0} → Parts S → List (Step S)
held_steps p = take p.held p.steps.now

-- the family that the parts make up
abbrev pub meaning : {S : Type 0} → Kind S → Parts S → theory.Family
meaning K p =
    record { states = p.states; start = p.start; label = λ s. slice_index p.labels s; steps = map (step_of K) (held_steps p) }

-- n states, no steps, and all labels 0
abbrev pub bare : ℕ → ℕ → theory.Family
bare n start = record { states = n; start = start; label = λ s. 0; steps = [] }

-- n states that start in state 0, all labels 0, and the steps
abbrev pub made : ℕ → List theory.Step → theory.Family
made n steps = record { states = n; start = 0; label = λ s. 0; steps = steps }

-- F, but state s has the label l
abbrev pub with_label : theory.Family → ℕ → ℕ → theory.Family
with_label F s l =
    record { states = F.states; start = F.start; label = λ k. cond (k == s) l (F.label k); steps = F.steps }

-- F, with one step more at the end of the list
abbrev pub with_step : theory.Family → theory.Step → theory.Family
with_step F x = record { states = F.states; start = F.start; label = F.label; steps = F.steps ++ x ∷ [] }
