-- Families of transition systems, and the machine of each variant.
use Rattle.std.specs.Prelude.{ℕ, Bool, cond, List, [], ◌∷◌, ◌==◌}
use mathlib.Core.List.{Memᴰ}
use Rattle.theory.specs.Sets.{Variants}

-- a transition system: its states are the numbers below `states`, each has a label, and it lists its steps
pub record System (X : Type 0) : Type 0 where
  pub states : ℕ
  pub start : ℕ
  pub label : ℕ → ℕ
  pub steps : List X

-- a step of one machine
pub record Move : Type 0 where
  pub from : ℕ
  pub action : ℕ
  pub to : ℕ

-- a step of a family: the variants that it holds have it
pub record Step : Type 0 where
  pub from : ℕ
  pub action : ℕ
  pub to : ℕ
  pub held : Variants

-- a machine is a transition system of moves
abbrev pub Machine : Type 0
Machine = System Move

-- a family is a transition system whose steps carry the variants that have them
abbrev pub Family : Type 0
Family = System Step

-- the action that is silent
abbrev pub silence : ℕ
silence = 0

-- a step, as a machine has it
abbrev pub move : Step → Move
move x = record { from = x.from; action = x.action; to = x.to }

-- the steps that variant v has, in the order of the list
abbrev pub moves : ℕ → List Step → List Move
moves v [] = []
moves v (x ∷ xs) = cond (x.held v) (move x ∷ moves v xs) (moves v xs)

-- the machine of variant v: the family's states, start and labels, and exactly the steps that hold v
abbrev pub machine : Family → ℕ → Machine
machine F v = record { states = F.states; start = F.start; label = F.label; steps = moves v F.steps }

-- the machine has a step from s by action a to s'
abbrev pub Goes : Machine → ℕ → ℕ → ℕ → Type 0
Goes M s a s' = Memᴰ (record { from = s; action = a; to = s' }) M.steps

-- the labels of the two states are equal
unfoldable pub agree : {X Y : Type 0} → System X → System Y → ℕ → ℕ → Bool
agree L R s t = L.label s == R.label t
