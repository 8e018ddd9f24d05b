-- What the calls on drafts answer and leave.
use Rattle.std.specs.Prelude.{◌≡◌, ℕ, ◌<◌, ◌≤◌, cond, ◌&&◌, ◌||◌, List, [], Some, None, Option, ◌==◌, nat_lt, slice_set}
use Rattle.theory.specs.Systems as theory
use Rattle.theory.specs.Answers.{Answer, granted, refused}
use Rattle.variants.specs.declared.VariantSet.{Ghosts as Kind}
use Rattle.families.specs.declared.parts.Step.{Step}
use Rattle.families.specs.declared.Draft.{Draft}
use Rattle.families.specs.declared.Family.{Family}
use Rattle.families.specs.Parts.{capacity}
use Rattle.families.specs.Models.{meaning, step_of, bare, with_label, with_step}

-- the family that a draft would close to
abbrev pub drafted : {S : Type 0} → Kind S → Draft S → theory.Family
drafted K d = meaning K d.parts

-- what a closed family means
abbrev pub model : {S : Type 0} → Kind S → Family S → theory.Family
model K f = meaning K f.parts

-- the label of a state, or None where there is no such state
abbrev pub label_at : theory.Family → ℕ → Option ℕ
label_at F s = cond (nat_lt s F.states) (Some (F.label s)) None

-- the memory that a draft was lent
abbrev pub memory_of : {S : Type 0} → Draft S → List (Step S)
memory_of d = d.parts.steps.now

-- 1: n is 0 or above 64; 2: the start is not below n
abbrev pub open_answer : ℕ → ℕ → Answer
open_answer n start = cond (n == 0 || nat_lt 64 n) (refused 1) (cond (nat_lt start n) (granted []) (refused 2))

-- what open grants
pub record Openable (n start : ℕ) : Type 0 where
  pub some : 0 < n
  pub few : n ≤ 64
  pub starts : start < n

-- 4: the state is not below n
abbrev pub label_answer : {S : Type 0} → Draft S → ℕ → Answer
label_answer d state = cond (nat_lt state d.parts.states) (granted []) (refused 4)

-- 4: a state of the step is not below n; 5: the capacity is reached
abbrev pub step_answer : {S : Type 0} → Draft S → Step S → Answer
step_answer d x =
    cond (nat_lt x.from d.parts.states && nat_lt x.to d.parts.states)
    (cond (nat_lt d.parts.held (capacity d.parts)) (granted []) (refused 5))
    (refused 4)

module _ {S : Type 0} (K : Kind S) where
  -- a draft of n states, no steps and all labels 0; the memory is untouched
  pub record Opened (n start : ℕ) (lent : List (Step S)) (d : Draft S) : Type 0 where
    pub means : drafted K d ≡ bare n start
    pub memory : memory_of d ≡ lent

  -- the state has its label; nothing else changed
  pub record Labelled (d : Draft S) (state lamps : ℕ) (d' : Draft S) : Type 0 where
    pub means : drafted K d' ≡ with_label (drafted K d) state lamps
    pub memory : memory_of d' ≡ memory_of d

  -- the step stands at the end of the list; of the memory only its place changed
  pub record Stepped (d : Draft S) (x : Step S) (d' : Draft S) : Type 0 where
    pub means : drafted K d' ≡ with_step (drafted K d) (step_of K x)
    pub memory : memory_of d' ≡ slice_set (memory_of d) d.parts.held x

  -- the family means what the draft meant; the memory is untouched
  pub record Closed (d : Draft S) (f : Family S) : Type 0 where
    pub means : model K f ≡ drafted K d
    pub memory : f.parts.steps.now ≡ memory_of d
