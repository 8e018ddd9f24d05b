-- What holds at every moment of a comparison, over every order of its calls.
use Rattle.std.specs.Prelude.{◌≡◌, ℕ, ◌+◌, ◌*◌, ◌<◌, ◌≤◌, true, false, cond, ◌↔◌, List, [], ◌∷◌, ◌==◌}
use mathlib.Core.List.{Memᴰ}
use Rattle.theory.specs.Sets.{Variants, members}
use Rattle.theory.specs.Counts.{Count}
use Rattle.theory.specs.Systems.{Family, machine, agree}
use Rattle.theory.specs.Simulations.{Simulated}
use Rattle.theory.specs.Tables.{Largest}
use Rattle.theory.specs.Sweeps.{begun, lost}
use Rattle.theory.specs.Answers.{Answer}
use Rattle.theory.specs.Calls.{Frame, Moment, unswept, Call, sweep, run, ask, settle, verdict, Does}

-- the frame of a comparison that begins with L and R
abbrev pub frame_of : ℕ → Family → Family → Frame
frame_of V L R =
    record { variants = V; left_states = L.states; right_states = R.states; left_start = L.start; right_start = R.start }

-- what begin makes
abbrev pub first_moment : Family → Family → Variants → Moment
first_moment L R listed = record { table = begun L R listed; last = unswept; settled = false }

-- a call, and what it answered
pub record Turn : Type 0 where
  pub call : Call
  pub answer : Answer

-- a granted sweep or run brings L and R themselves; a refused one may bring any families
abbrev pub SameFamilies : Family → Family → Call → Answer → Type 0
SameFamilies L R (sweep L' R') a = a.number ≡ 0 → (L' ≡ L) × (R' ≡ R)
SameFamilies L R (run b L' R') a = a.number ≡ 0 → (L' ≡ L) × (R' ≡ R)
SameFamilies L R (ask s t v) a = Unit {0}
SameFamilies L R settle a = Unit {0}
SameFamilies L R verdict a = Unit {0}

-- the first value of an answer
abbrev first : List ℕ → ℕ
first [] = 0
first (x ∷ xs) = x

-- the second value of an answer
abbrev second : List ℕ → ℕ
second [] = 0
second (x ∷ xs) = first xs

-- the strikes that a call answers: the first value of a sweep, the second of a run
abbrev pub strikes_answered : Call → Answer → ℕ
strikes_answered (sweep L R) a = first a.values
strikes_answered (run b L R) a = second a.values
strikes_answered (ask s t v) a = 0
strikes_answered settle a = 0
strikes_answered verdict a = 0

-- the sweeps that a call allows: one by a granted sweep, the budget by a granted run
abbrev pub sweeps_allowed : Call → Answer → ℕ
sweeps_allowed (sweep L R) a = cond (a.number == 0) 1 0
sweeps_allowed (run b L R) a = cond (a.number == 0) b 0
sweeps_allowed (ask s t v) a = 0
sweeps_allowed settle a = 0
sweeps_allowed verdict a = 0

-- the strikes answered over all turns
abbrev pub strikes_in : List Turn → ℕ
strikes_in [] = 0
strikes_in (x ∷ xs) = strikes_answered x.call x.answer + strikes_in xs

-- the sweeps allowed over all turns
abbrev pub sweeps_in : List Turn → ℕ
sweeps_in [] = 0
sweeps_in (x ∷ xs) = sweeps_allowed x.call x.answer + sweeps_in xs

-- the turns, the newest first, led a comparison of frame f from one moment to another: each call was taken, and brought L and R where it was granted
pub data Led (f : Frame) (L R : Family) (from : Moment) : List Turn → Moment → Type 0 where
  at_once : Led f L R from [] from
  then : {turns : List Turn} {m m' : Moment} (c : Call) (a : Answer) → Led f L R from turns m →
      Does f m c a m' → SameFamilies L R c a → Led f L R from (record { call = c; answer = a } ∷ turns) m'

-- the turns led from begin to the moment
abbrev pub History : (V : ℕ) (L R : Family) → Variants → List Turn → Moment → Type 0
History V L R listed = Led (frame_of V L R) L R (first_moment L R listed)

-- in variant v some simulation of the two machines relates the pair
abbrev pub Related : Family → Family → ℕ → ℕ → ℕ → Type 0
Related L R v s t = Simulated (machine L v) (machine R v) s t

-- place p, counted row by row and variant by variant, is a pair with equal labels and a listed variant in which no simulation relates it
pub record Unrelated (V : ℕ) (L R : Family) (listed : Variants) (p : ℕ) : Type 0 where
  pub s : ℕ
  pub t : ℕ
  pub v : ℕ
  pub t_in : t < R.states
  pub v_in : v < V
  pub place : p ≡ (s * R.states + t) * V + v
  pub agrees : agree L R s t ≡ true
  pub is_listed : listed v ≡ true
  pub never : Related L R v s t → ⊥

-- K adds up, over the pairs with equal labels, the listed variants in which no simulation relates the pair
abbrev pub LostInTheEnd : ℕ → Family → Family → Variants → ℕ → Type 0
LostInTheEnd V L R listed K = Count (Unrelated V L R listed) ((L.states * R.states) * V) K

-- what the table of a moment says of simulations
pub record Exact (V : ℕ) (L R : Family) (listed : Variants) (m : Moment) : Type 0 where
  -- the table holds nothing unlisted
  pub only_listed : (s t v : ℕ) → m.table s t v ≡ true → listed v ≡ true
  -- a pair lacks a listed variant only if no simulation relates it
  pub safe : (s t v : ℕ) → listed v ≡ true → Related L R v s t → m.table s t v ≡ true
  -- once settled, a pair holds a listed variant exactly if some simulation relates it
  pub settled_exact : m.settled ≡ true → (s t v : ℕ) → (m.table s t v ≡ true) ↔ ((listed v ≡ true) × Related L R v s t)
  -- once settled, the table is the largest family simulation
  pub settled_largest : m.settled ≡ true → Largest L R listed m.table
  -- a granted ask answers from the table as it stands
  pub asks : (s t v : ℕ) (a : Answer) (m' : Moment) → Does (frame_of V L R) m (ask s t v) a m' → a.number ≡ 0 →
      (a.values ≡ cond (m.table s t v) 1 0 ∷ []) × (m' ≡ m)
  -- a verdict answers from the table as it stands, at the pair of starts
  pub verdicts : (a : Answer) (m' : Moment) → Does (frame_of V L R) m verdict a m' →
      (a.number ≡ 0) × (a.values ≡ members V (m.table L.start R.start)) × (m' ≡ m)
  -- so a verdict lists just the listed variants in which a simulation relates the starts
  pub verdict_exact : (a : Answer) (m' : Moment) → Does (frame_of V L R) m verdict a m' →
      (v : ℕ) → Memᴰ v a.values ↔ ((listed v ≡ true) × Related L R v L.start R.start)

-- the strikes answered add up to the listed variants lost by pairs with equal labels
abbrev pub StrikesAreLosses : ℕ → Family → Family → Variants → List Turn → Moment → Type 0
StrikesAreLosses V L R listed turns m = strikes_in turns ≡ lost L R V listed m.table

-- once more than K sweeps were allowed, a settle is granted
abbrev pub EnoughSweepsSettle : ℕ → Family → Family → Variants → List Turn → Moment → Type 0
EnoughSweepsSettle V L R listed turns m =
    (K : ℕ) → LostInTheEnd V L R listed K → K < sweeps_in turns →
    (a : Answer) (m' : Moment) → Does (frame_of V L R) m settle a m' → a.number ≡ 0

-- what holds at a moment that the turns led to
pub record Promised (V : ℕ) (L R : Family) (listed : Variants) (turns : List Turn) (m : Moment) : Type 0 where
  pub exact : Exact V L R listed m
  pub strikes_are_losses : StrikesAreLosses V L R listed turns m
  pub enough_sweeps_settle : EnoughSweepsSettle V L R listed turns m
  -- once settled, the strikes answered are K
  pub settled_strikes : m.settled ≡ true → LostInTheEnd V L R listed (strikes_in turns)

-- what a comparison of L and R over the list promises
pub record ComparingIsExact (V : ℕ) (L R : Family) (listed : Variants) : Type 0 where
  -- over any history, at once and after each call
  pub over_any_history : (turns : List Turn) (m : Moment) → History V L R listed turns m → Promised V L R listed turns m
  -- K exists, at most one for each variant at each pair
  pub final_losses : (K : ℕ) × LostInTheEnd V L R listed K × (K ≤ (L.states * R.states) * V)
  -- and is one number
  pub one_number : (K K' : ℕ) → LostInTheEnd V L R listed K → LostInTheEnd V L R listed K' → K ≡ K'
  -- some history settles
  pub some_history_settles : (turns : List Turn) × (m : Moment) × History V L R listed turns m × (m.settled ≡ true)
