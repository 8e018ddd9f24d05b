-- A branching bisimulation of two machines.
use Rattle.std.specs.Prelude.{◌≡◌, ℕ, Bool, true, ◌⊎◌}
use Rattle.theory.specs.Systems.{Machine, Goes, silence}
use Rattle.theory.specs.Simulations.{Pairs}

-- zero or more silent steps lead from the one state to the other
pub data Silently (M : Machine) : ℕ → ℕ → Type 0 where
  stays : {s : ℕ} → Silently M s s
  goes : {s r s' : ℕ} → Silently M s r → Goes M r silence s' → Silently M s s'

-- from t, silent steps to a state that is still paired, then action a, or nothing if a is silent, to a state that is paired after
pub record Followed (M : Machine) (paired after : ℕ → Bool) (t a : ℕ) : Type 0 where
  pub via : ℕ
  pub end : ℕ
  pub silent : Silently M t via
  pub still : paired via ≡ true
  pub does : Goes M via a end ⊎ ((a ≡ silence) × (via ≡ end))
  pub then : after end ≡ true

-- every step of either side from a pair is followed from the partner
pub record BranchingBisimulation (M N : Machine) (rel : Pairs) : Type 0 where
  pub left : (s t a s' : ℕ) → rel s t ≡ true → Goes M s a s' → Followed N (rel s) (rel s') t a
  pub right : (s t a t' : ℕ) → rel s t ≡ true → Goes N t a t' → Followed M (λ r. rel r t) (λ r. rel r t') s a
