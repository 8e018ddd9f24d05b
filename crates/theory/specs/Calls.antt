-- What each call on a comparison answers and leaves.
use Rattle.std.specs.Prelude.{◌≡◌, ℕ, suc, ◌+◌, ◌<◌, ◌≤◌, Bool, true, false, cond, ◌⊎◌, [], ◌∷◌, ◌≢◌}
use Rattle.theory.specs.Sets.{members}
use Rattle.theory.specs.Systems.{Family}
use Rattle.theory.specs.Tables.{Table}
use Rattle.theory.specs.Sweeps.{swept, strikes}
use Rattle.theory.specs.Answers.{Answer, granted, refused}

-- what a comparison keeps from begin: the size of the kind, both numbers of states, both starts
pub record Frame : Type 0 where
  pub variants : ℕ
  pub left_states : ℕ
  pub right_states : ℕ
  pub left_start : ℕ
  pub right_start : ℕ

-- no sweep yet, or how many variants the last sweep struck
pub data Last : Type 0 where
  unswept : Last
  struck : ℕ → Last

-- what a comparison is between two calls
pub record Moment : Type 0 where
  pub table : Table
  pub last : Last
  pub settled : Bool

-- sweep and run bring both families; run has a budget of sweeps; ask names a pair and a variant
pub data Call : Type 0 where
  sweep : Family → Family → Call
  run : ℕ → Family → Family → Call
  ask : ℕ → ℕ → ℕ → Call
  settle : Call
  verdict : Call

-- the families have the numbers of states and the starts that begin saw
pub record Brings (f : Frame) (L R : Family) : Type 0 where
  pub left_states : L.states ≡ f.left_states
  pub left_start : L.start ≡ f.left_start
  pub right_states : R.states ≡ f.right_states
  pub right_start : R.start ≡ f.right_start

-- what one sweep leaves of a moment
abbrev pub after_sweep : ℕ → Family → Family → Moment → Moment
after_sweep V L R m = record { table = swept L R m.table; last = struck (strikes L R V m.table); settled = false }

-- what settling leaves of a moment
abbrev pub after_settle : Moment → Moment
after_settle m = record { table = m.table; last = m.last; settled = true }

-- a run of at most b sweeps from m, which ends after a sweep that strikes nothing, made j sweeps and k strikes, and left m'
pub data Ran (V : ℕ) (L R : Family) : ℕ → Moment → ℕ → ℕ → Moment → Type 0 where
  spent : {m : Moment} → Ran V L R 0 m 0 0 m
  quiet : {b : ℕ} {m : Moment} → strikes L R V m.table ≡ 0 → Ran V L R (suc b) m 1 0 (after_sweep V L R m)
  on : {b j k : ℕ} {m m' : Moment} → 0 < strikes L R V m.table → Ran V L R b (after_sweep V L R m) j k m' →
      Ran V L R (suc b) m (suc j) (strikes L R V m.table + k) m'

-- the outcome of each call at a comparison of frame f: what it answers, and the moment it leaves
pub data Does (f : Frame) (m : Moment) : Call → Answer → Moment → Type 0 where
  swept_once : {L R : Family} → m.settled ≡ false → Brings f L R →
      Does f m (sweep L R) (granted (strikes L R f.variants m.table ∷ [])) (after_sweep f.variants L R m)
  swept_refused : {L R : Family} → m.settled ≡ false → (Brings f L R → ⊥) → Does f m (sweep L R) (refused 3) m
  ran : {L R : Family} {b j k : ℕ} {m' : Moment} → m.settled ≡ false → Brings f L R → Ran f.variants L R b m j k m' →
      Does f m (run b L R) (granted (j ∷ k ∷ [])) m'
  run_refused : {L R : Family} {b : ℕ} → m.settled ≡ false → (Brings f L R → ⊥) → Does f m (run b L R) (refused 3) m
  asked : {s t v : ℕ} → s < f.left_states → t < f.right_states → v < f.variants →
      Does f m (ask s t v) (granted (cond (m.table s t v) 1 0 ∷ [])) m
  ask_no_pair : {s t v : ℕ} → (f.left_states ≤ s) ⊎ (f.right_states ≤ t) → Does f m (ask s t v) (refused 4) m
  ask_no_variant : {s t v : ℕ} → s < f.left_states → t < f.right_states → f.variants ≤ v → Does f m (ask s t v) (refused 8) m
  settled_now : m.settled ≡ false → m.last ≡ struck 0 → Does f m settle (granted []) (after_settle m)
  settle_refused : m.settled ≡ false → (m.last ≢ struck 0) → Does f m settle (refused 9) m
  judged : m.settled ≡ true →
      Does f m verdict (granted (members f.variants (m.table f.left_start f.right_start))) m

-- the calls that a comparison takes as it stands: ask always, verdict once settled, the others until then
abbrev pub Takes : Moment → Call → Type 0
Takes m (sweep L R) = m.settled ≡ false
Takes m (run b L R) = m.settled ≡ false
Takes m (ask s t v) = Unit {0}
Takes m settle = m.settled ≡ false
Takes m verdict = m.settled ≡ true

-- a call that a comparison takes has an outcome, and no other
abbrev pub CallsHaveOneOutcome : Type 0
CallsHaveOneOutcome =
    (f : Frame) (m : Moment) (c : Call) → Takes m c →
    (a : Answer) × (m' : Moment) × Does f m c a m' × ((b : Answer) (n : Moment) → Does f m c b n → (b ≡ a) × (n ≡ m'))
