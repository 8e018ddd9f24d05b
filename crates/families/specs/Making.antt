-- When a family can be made of steps, and what it then is.
use Rattle.std.specs.Prelude.{◌≡◌, ℕ, ◌+◌, cond, ◌&&◌, ◌||◌, min, List, [], ◌∷◌, ◌++◌, map, length, drop, ◌==◌, nat_lt}
use Rattle.theory.specs.Answers.{Answer, granted, refused}
use Rattle.variants.specs.declared.VariantSet.{Ghosts as Kind}
use Rattle.families.specs.declared.parts.Step.{Step}
use Rattle.families.specs.declared.Family.{Family}
use Rattle.families.specs.Models.{step_of, made}
use Rattle.families.specs.Drafts.{model}

-- what adding the steps one by one answers, to a draft of n states that holds `held` steps and has room for
-- `room`; the first that is refused decides. 4: a state of it is not below n; 5: there is no room
abbrev pub steps_answer : {S : Type 0} → (n room held : ℕ) → List (Step S) → Answer
steps_answer n room held [] = granted []
steps_answer n room held (x ∷ xs) =
    cond (nat_lt x.from n && nat_lt x.to n) (cond (nat_lt held room) (steps_answer n room (held + 1) xs) (refused 5)) (refused 4)

-- 1: n is 0 or above 64; else what adding the steps answers, with room for 1024 or as many as the memory has places
abbrev pub family_answer : {S : Type 0} → (n places : ℕ) → List (Step S) → Answer
family_answer n places steps = cond (n == 0 || nat_lt 64 n) (refused 1) (steps_answer n (min 1024 places) 0 steps)

-- what making a family asks for
abbrev pub Makeable : {S : Type 0} → (n places : ℕ) → List (Step S) → Type 0
Makeable n places steps = family_answer n places steps ≡ granted []

-- n states, no labels, and the steps, which stand in the first places of the lent memory; later places are untouched
pub record Made {S : Type 0} (K : Kind S) (n : ℕ) (steps lent : List (Step S)) (f : Family S) : Type 0 where
  pub means : model K f ≡ made n (map (step_of K) steps)
  pub memory : f.parts.steps.now ≡ steps ++ drop (length steps) lent
