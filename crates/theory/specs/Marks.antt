-- What marking answers: acceptance, or the first fault.
use Rattle.std.specs.Prelude.{◌≡◌, ℕ, suc, ◌<◌, true, ◌⊎◌, ◌↔◌, List, [], ◌∷◌}
use Rattle.theory.specs.Sets.{Variants}
use Rattle.theory.specs.Systems.{Step, Family, machine}
use Rattle.theory.specs.Tables.{Table}
use Rattle.theory.specs.Bisimulations.{Followed, BranchingBisimulation}
use Rattle.theory.specs.Answers.{Answer, granted}

-- the step at place i of a list
pub data At : List Step → ℕ → Step → Type 0 where
  here : {x : Step} {xs : List Step} → At (x ∷ xs) 0 x
  there : {x y : Step} {xs : List Step} {i : ℕ} → At xs i x → At (y ∷ xs) (suc i) x

-- a step of the left side is followed by the right side, and the other way round
pub data Side : Type 0 where
  left : Side
  right : Side

-- the family of a side, of the two
abbrev pub mover : Side → Family → Family → Family
mover left L R = L
mover right L R = R

-- the family of the other side
abbrev pub follower : Side → Family → Family → Family
follower left L R = R
follower right L R = L

-- the side's own state of a pair, left and right
abbrev pub own : Side → ℕ → ℕ → ℕ
own left s t = s
own right s t = t

-- the other side's state of a pair
abbrev pub other : Side → ℕ → ℕ → ℕ
other left s t = t
other right s t = s

-- a table as the side sees it: its own state first
abbrev pub facing : Side → Table → Table
facing left H = H
facing right H = λ s t. H t s

-- a step of a side is followed from a pair in variant v: its table faces the side, s is the side's own state, t the other's
abbrev pub StepFollowed : Family → Table → ℕ → ℕ → Step → ℕ → Type 0
StepFollowed F H s t x v = Followed (machine F v) (λ r. H s r v) (λ r. H x.to r v) t x.action

-- where marking looks: at the starts, and at each pair at each step of each side
pub data Spot : Type 0 where
  at_starts : Spot
  at_step : Side → ℕ → ℕ → ℕ → Spot

-- pairs by ascending left state, then ascending right state
abbrev pub EarlierPair : ℕ → ℕ → ℕ → ℕ → Type 0
EarlierPair s t s' t' = (s < s') ⊎ ((s ≡ s') × (t < t'))

-- at a pair the left steps in list order, and then the right steps
abbrev pub EarlierStep : Side → ℕ → Side → ℕ → Type 0
EarlierStep left i left j = i < j
EarlierStep left i right j = Unit {0}
EarlierStep right i left j = ⊥
EarlierStep right i right j = i < j

-- the order in which marking looks
abbrev pub Before : Spot → Spot → Type 0
Before at_starts at_starts = ⊥
Before at_starts (at_step side s t i) = Unit {0}
Before (at_step side s t i) at_starts = ⊥
Before (at_step side s t i) (at_step side' s' t' j) =
    EarlierPair s t s' t' ⊎ ((s ≡ s') × (t ≡ t') × EarlierStep side i side' j)

-- the number of a fault's kind: 1 is the start rule, 2 the left rule, 3 the right rule
abbrev pub kind_of : Side → ℕ
kind_of left = 2
kind_of right = 3

module _ (L R : Family) (listed : Variants) (H : Table) where
  -- the spot asks something of variant v: it is listed, or the step leaves the pair and both hold v
  pub data Asks : Spot → ℕ → Type 0 where
    of_starts : {v : ℕ} → listed v ≡ true → Asks at_starts v
    of_step : {side : Side} {s t i v : ℕ} {x : Step} → At (mover side L R).steps i x → x.from ≡ own side s t →
        x.held v ≡ true → H s t v ≡ true → Asks (at_step side s t i) v

  -- variant v has what the spot asks: the pair of starts holds it, or the step is followed in it
  pub data Meets : Spot → ℕ → Type 0 where
    by_starts : {v : ℕ} → H L.start R.start v ≡ true → Meets at_starts v
    by_step : {side : Side} {s t i v : ℕ} {x : Step} → At (mover side L R).steps i x →
        StepFollowed (follower side L R) (facing side H) (own side s t) (other side s t) x v → Meets (at_step side s t i) v

  -- every variant that the spot asks something of has it
  abbrev pub Passes : Spot → Type 0
  Passes p = (v : ℕ) → Asks p v → Meets p v

  -- p is the first spot that does not pass, and v the least variant that fails there
  pub record FirstFault (p : Spot) (v : ℕ) : Type 0 where
    pub asked : Asks p v
    pub unmet : Meets p v → ⊥
    pub least : (u : ℕ) → u < v → Asks p u → Meets p u
    pub earlier : (q : Spot) → Before q p → Passes q

  -- the answer at a fault: its kind, the pair, the step's place in its family's list, and the variant
  abbrev pub fault : Spot → ℕ → Answer
  fault at_starts v = granted (1 ∷ L.start ∷ R.start ∷ 0 ∷ v ∷ [])
  fault (at_step side s t i) v = granted (kind_of side ∷ s ∷ t ∷ i ∷ v ∷ [])

  -- marking answers nothing if every spot passes, else the first fault
  pub data Marked : Answer → Type 0 where
    accepted : ((p : Spot) → Passes p) → Marked (granted [])
    faulty : {p : Spot} {v : ℕ} → FirstFault p v → Marked (fault p v)

-- a candidate: a table that has only listed variants, only at pairs of states
pub record Candidate (L R : Family) (listed : Variants) (H : Table) : Type 0 where
  pub left_in : (s t v : ℕ) → H s t v ≡ true → s < L.states
  pub right_in : (s t v : ℕ) → H s t v ≡ true → t < R.states
  pub only_listed : (s t v : ℕ) → H s t v ≡ true → listed v ≡ true

-- for each listed variant, the pairs whose sets hold it are a branching bisimulation of its two machines, with start paired with start
abbrev pub Bisimulates : Family → Family → Variants → Table → Type 0
Bisimulates L R listed H =
    (v : ℕ) → listed v ≡ true →
    BranchingBisimulation (machine L v) (machine R v) (λ s t. H s t v) × (H L.start R.start v ≡ true)

-- what marking a candidate promises
pub record MarkingIsExact (L R : Family) (listed : Variants) (H : Table) : Type 0 where
  -- accepted exactly if it bisimulates
  pub accepts : (a : Answer) → Marked L R listed H a → (a ≡ granted []) ↔ Bisimulates L R listed H
  -- and no other answer is possible
  pub one_answer : (a b : Answer) → Marked L R listed H a → Marked L R listed H b → a ≡ b
