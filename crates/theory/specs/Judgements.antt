-- The judgement of one step at a pair, and of the steps of one side.
use Rattle.std.specs.Prelude.{◌≡◌, ℕ, zero, suc, ◌<◌, Bool, true, false, ◌&&◌, ◌||◌, ◌↔◌, List, length, Some, None, Option, ◌==◌}
use Rattle.theory.specs.Sets.{Variants}
use Rattle.theory.specs.Systems.{Step, Family, machine, silence}
use Rattle.theory.specs.Tables.{Table}
use Rattle.theory.specs.Bisimulations.{Silently}
use Rattle.theory.specs.Sweeps.{answered}
use Rattle.theory.specs.Marks.{At, StepFollowed, Spot, Before, Passes}

-- X is the row of silent reach from t, over V variants
abbrev pub ReachRow : ℕ → Family → ℕ → (ℕ → Variants) → Type 0
ReachRow V F t X = (j v : ℕ) → j < F.states → v < V → (X j v ≡ true) ↔ Silently (machine F v) t j

-- the step x is followed by way of r: r is reached and still paired with s, and a step of xs answers x from there, or x is silent and nothing is needed
abbrev pub by_way_of : List Step → (ℕ → Variants) → Table → ℕ → Step → ℕ → ℕ → Bool
by_way_of xs X H s x v r = (X r v && H s r v) && (answered xs H r x v || (x.action == silence && H x.to r v))

-- some number below n passes the test
abbrev pub some_below : ℕ → (ℕ → Bool) → Bool
some_below zero f = false
some_below (suc n) f = some_below n f || f n

-- at a pair of states: the family that follows, and the table as the mover sees it
module _ (F : Family) (H : Table) (s t : ℕ) where
  -- the step leaves s, and it and the pair hold v
  abbrev pub Due : Step → ℕ → Type 0
  Due x v = (x.from ≡ s) × (x.held v ≡ true) × (H s t v ≡ true)

  -- None if the step is followed in every variant in which it is due, else the least in which it is not
  abbrev pub Judged : Step → Option ℕ → Type 0
  Judged x None = (v : ℕ) → Due x v → StepFollowed F H s t x v
  Judged x (Some v) = Due x v × (StepFollowed F H s t x v → ⊥) × ((u : ℕ) → u < v → Due x u → StepFollowed F H s t x u)

  -- every step of xs before place i is followed
  abbrev pub FollowedBelow : List Step → ℕ → Type 0
  FollowedBelow xs i = (j : ℕ) (x : Step) → j < i → At xs j x → (v : ℕ) → Due x v → StepFollowed F H s t x v

  -- every step of xs is followed
  abbrev pub AllFollowed : List Step → Type 0
  AllFollowed xs = FollowedBelow xs (length xs)

  -- the step at place i is the first of xs that is not followed, and v the least variant in which it is not
  pub record FirstUnfollowed (xs : List Step) (i v : ℕ) : Type 0 where
    pub step : Step
    pub place : At xs i step
    pub judged : Judged step (Some v)
    pub before : FollowedBelow xs i

-- everything before the spot passes
abbrev pub Clear : Family → Family → Variants → Table → Spot → Type 0
Clear L R listed H p = (q : Spot) → Before q p → Passes L R listed H q
