-- What the parts of a draft or a closed family keep to.
use Rattle.std.specs.Prelude.{ℕ, ◌<◌, ◌≤◌, List, length}
use Rattle.std.specs.List.{AllWithin}
use Rattle.families.specs.declared.parts.Step.{Step}

-- there are 1 to 64 states
abbrev pub FewStates : ℕ → Type 0
FewStates states = (0 < states) × (states ≤ 64)

-- the start is a state
abbrev pub StartsInside : ℕ → ℕ → Type 0
StartsInside states start = start < states

module _ {S : Type 0} (steps : List (Step S)) (held : ℕ) where
  -- at most 1024 steps are held, and the memory has room for them
  abbrev pub Room : Type 0
  Room = (held ≤ 1024) × (held ≤ length steps)

  -- every step that is held leaves a state
  abbrev pub LeaveStates : ℕ → Type 0
  LeaveStates states = AllWithin (λ x. x.from < states) steps 0 held

  -- and enters one
  abbrev pub EnterStates : ℕ → Type 0
  EnterStates states = AllWithin (λ x. x.to < states) steps 0 held
