-- A simulation of two machines.
use Rattle.std.specs.Prelude.{◌≡◌, ℕ, ◌<◌, Bool, true}
use Rattle.theory.specs.Systems.{Machine, Goes, agree}

-- a set of pairs of states, left and right
abbrev pub Pairs : Type 0
Pairs = ℕ → ℕ → Bool

-- a set of pairs with equal labels, where every left step is answered by a right step with the same action into a pair of the set
pub record Simulation (M N : Machine) (rel : Pairs) : Type 0 where
  pub left_in : (s t : ℕ) → rel s t ≡ true → s < M.states
  pub right_in : (s t : ℕ) → rel s t ≡ true → t < N.states
  pub agrees : (s t : ℕ) → rel s t ≡ true → agree M N s t ≡ true
  pub answers : (s t a s' : ℕ) → rel s t ≡ true → Goes M s a s' → (t' : ℕ) × Goes N t a t' × (rel s' t' ≡ true)

-- some simulation relates the pair
abbrev pub Simulated : Machine → Machine → ℕ → ℕ → Type 0
Simulated M N s t = (rel : Pairs) × Simulation M N rel × (rel s t ≡ true)
