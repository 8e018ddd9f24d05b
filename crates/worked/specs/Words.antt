-- Families, candidates and histories that are written out.
use Rattle.std.specs.Prelude.{◌≡◌, ℕ, zero, suc, false, ◌&&◌, ◌||◌, List, [], ◌∷◌, ◌++◌, map, reverse, ◌==◌}
use Rattle.theory.specs.Sets.{Variants, members}
use Rattle.theory.specs.Systems.{Step, Family}
use Rattle.theory.specs.Tables.{Table}
use Rattle.theory.specs.Answers.{granted, refused}
use Rattle.theory.specs.Calls.{Moment, sweep, run, settle, verdict}
use Rattle.theory.specs.Histories.{Turn, History}
use Rattle.theory.specs.Marks.{Marked}

-- the set of the numbers of a list
abbrev pub set_of : List ℕ → Variants
set_of [] v = false
set_of (x ∷ xs) v = v == x || set_of xs v

-- a step, as it is written: leaves, action, enters, set
abbrev pub step : (leaves action enters : ℕ) → List ℕ → Step
step leaves action enters set = record { from = leaves; action = action; to = enters; held = set_of set }

-- a family of n states, start 0, every label the same
abbrev pub labelled : (label n : ℕ) → List Step → Family
labelled label n steps = record { states = n; start = 0; label = λ _. label; steps = steps }

-- a family of n states, start 0, all labels 0
abbrev pub family : (n : ℕ) → List Step → Family
family = labelled 0

-- the list that all lines have
abbrev pub listed : Variants
listed = set_of (0 ∷ 1 ∷ [])

-- a set at a pair of states, left and right
pub record Entry : Type 0 where
  pub left : ℕ
  pub right : ℕ
  pub set : List ℕ

-- a set at a pair, as it is written
abbrev pub at : (s t : ℕ) → List ℕ → Entry
at s t set = record { left = s; right = t; set = set }

-- the table that has just these sets, and nothing elsewhere
abbrev pub holding : List Entry → Table
holding [] s t v = false
holding (e ∷ es) s t v = (s == e.left && (t == e.right && set_of e.set v)) || holding es s t v

-- the sets at (s, 0) .. (s, k - 1), each by its numbers; Masks have 64 variants
abbrev pub row : Table → ℕ → ℕ → List (List ℕ)
row T s zero = []
row T s (suc k) = row T s k ++ members 64 (T s k) ∷ []

-- the rows of the states 0 .. k - 1, of m sets each
abbrev pub rows : Table → ℕ → ℕ → List (List (List ℕ))
rows T m zero = []
rows T m (suc k) = rows T m k ++ row T k m ∷ []

-- a call with two families, and what it answers
abbrev pub Event : Type 0
Event = Family → Family → Turn

-- a sweep that strikes k
abbrev pub sweeps : (k : ℕ) → Event
sweeps k L R = record { call = sweep L R; answer = granted (k ∷ []) }

-- a run of at most b sweeps that makes j of them and strikes k
abbrev pub runs : (b j k : ℕ) → Event
runs b j k L R = record { call = run b L R; answer = granted (j ∷ k ∷ []) }

-- a settle that is granted
abbrev pub settles : Event
settles L R = record { call = settle; answer = granted [] }

-- a settle that is refused
abbrev pub settle_refused : Event
settle_refused L R = record { call = settle; answer = refused 9 }

-- a verdict that holds these variants
abbrev pub verdict_is : List ℕ → Event
verdict_is set L R = record { call = verdict; answer = granted set }

module _ (L R : Family) where
  -- the events with both families, the oldest first, as a history has them
  abbrev pub told : List Event → List Turn
  told events = reverse (map (λ x. x L R) events)

  -- on a new comparison the calls come out so
  abbrev pub ComesOut : List Event → Type 0
  ComesOut events = (m : Moment) × History 64 L R listed (told events) m

  -- and leave these sets, row by row
  pub record Leaves (events : List Event) (sets : List (List (List ℕ))) : Type 0 where
    pub moment : Moment
    pub history : History 64 L R listed (told events) moment
    pub table : rows moment.table R.states L.states ≡ sets

  -- marking the candidate of these sets answers so: nothing, or a fault's kind, pair, step and variant
  abbrev pub MarksAs : List Entry → List ℕ → Type 0
  MarksAs sets answer = Marked L R listed (holding sets) (granted answer)
