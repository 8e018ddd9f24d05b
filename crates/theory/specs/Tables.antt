-- Tables of variant sets over pairs of states, and the simulations of families.
use Rattle.std.specs.Prelude.{◌≡◌, ℕ, ◌<◌, true}
use mathlib.Core.List.{Memᴰ}
use Rattle.theory.specs.Sets.{Variants}
use Rattle.theory.specs.Systems.{Step, Family, agree}

-- which variants stand at a pair of states, left and right
abbrev pub Table : Type 0
Table = ℕ → ℕ → Variants

-- one right step from t answers the left step x in variant v: it has the same action, and both hold v, the step and the pair of entered states
pub record Answered (R : Family) (T : Table) (t v : ℕ) (x : Step) : Type 0 where
  pub step : Step
  pub listed : Memᴰ step R.steps
  pub leaves : step.from ≡ t
  pub does : step.action ≡ x.action
  pub holds : step.held v ≡ true
  pub after : T x.to step.to v ≡ true

-- the sweep rule keeps variant v at the pair: every left step from s that holds v is answered
abbrev pub SweepRule : Family → Family → Table → ℕ → ℕ → ℕ → Type 0
SweepRule L R T s t v = (x : Step) → Memᴰ x L.steps → x.from ≡ s → x.held v ≡ true → Answered R T t v x

-- each pair has a part of the list, nothing where labels differ, and the sweep rule would remove nothing
pub record FamilySimulation (L R : Family) (listed : Variants) (T : Table) : Type 0 where
  pub left_in : (s t v : ℕ) → T s t v ≡ true → s < L.states
  pub right_in : (s t v : ℕ) → T s t v ≡ true → t < R.states
  pub agrees : (s t v : ℕ) → T s t v ≡ true → agree L R s t ≡ true
  pub only_listed : (s t v : ℕ) → T s t v ≡ true → listed v ≡ true
  pub rule : (s t v : ℕ) → T s t v ≡ true → SweepRule L R T s t v

-- what U has at a pair, T has too
abbrev pub Contains : Table → Table → Type 0
Contains T U = (s t v : ℕ) → U s t v ≡ true → T s t v ≡ true

-- the family simulation that contains every other
pub record Largest (L R : Family) (listed : Variants) (T : Table) : Type 0 where
  pub simulates : FamilySimulation L R listed T
  pub contains : (U : Table) → FamilySimulation L R listed U → Contains T U
