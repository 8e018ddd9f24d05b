-- What the calls on comparisons answer and leave, by the outcomes of the theory.
use Rattle.std.specs.Prelude.{◌≡◌, ℕ, ◌*◌, ◌≤◌, Bool, cond, [], ◌∷◌, Some, None, Option, Result, ◌==◌, nat_lt}
use Rattle.theory.specs.Sets.{members}
use Rattle.theory.specs.Answers.{Answer, granted, refused}
use Rattle.theory.specs.Calls.{Frame, Moment, Does, sweep, run, ask, settle, verdict}
use Rattle.variants.specs.declared.VariantSet.{Ghosts as Kind}
use Rattle.variants.specs.Kinds.{Countable}
use Rattle.refusals.specs.declared.Refusal.{Refusal}
use Rattle.refusals.specs.Numbers.{answer}
use Rattle.families.specs.declared.Family.{Family}
use Rattle.families.specs.Drafts.{model}
use Rattle.comparing.specs.declared.Comparison.{Comparison}
use Rattle.comparing.specs.declared.Sweeping.{Sweeping}
use Rattle.comparing.specs.Moments.{Settled, frame, moment, settled_moment}

-- what a sweep answers: its strikes
abbrev pub swept_answer : Result ℕ Refusal → Answer
swept_answer = answer (λ k. k ∷ [])

-- what a run answers: its sweeps, and its strikes
abbrev pub ran_answer : Result (ℕ × ℕ) Refusal → Answer
ran_answer = answer (λ p. p.0 ∷ p.1 ∷ [])

-- what ask answers: 1 for yes, 0 for no
abbrev pub asked_answer : Result Bool Refusal → Answer
asked_answer = answer (λ b. cond b 1 0 ∷ [])

-- 6: the kind has more than 1024 variants; 7: the table has fewer places than there are pairs
abbrev pub begin_answer : (V n m places : ℕ) → Answer
begin_answer V n m places = cond (nat_lt 1024 V) (refused 6) (cond (nat_lt places (n * m)) (refused 7) (granted []))

-- what begin grants
pub record Fitting (V n m places : ℕ) : Type 0 where
  pub narrow : V ≤ 1024
  pub room : n * m ≤ places

-- 9: no sweep was made, or the last one struck
abbrev pub settle_answer : Option ℕ → Answer
settle_answer None = refused 9
settle_answer (Some k) = cond (k == 0) (granted []) (refused 9)

module _ {S : Type 0} (K : Kind S) where
  -- what begin grants to two families
  abbrev pub Beginnable : Family S → Family S → ℕ → Type 0
  Beginnable left right places = Fitting K.variants (model K left).states (model K right).states places

  -- the outcome of a sweep
  abbrev pub Sweeps : Comparison S Sweeping → Family S → Family S → Result ℕ Refusal → Comparison S Sweeping → Type 0
  Sweeps c left right r c' = Countable K → Does (frame K c) (moment K c) (sweep (model K left) (model K right)) (swept_answer r) (moment K c')

  -- the outcome of a run of at most b sweeps
  abbrev pub Runs : Comparison S Sweeping → ℕ → Family S → Family S → Result (ℕ × ℕ) Refusal → Comparison S Sweeping → Type 0
  Runs c b left right r c' = Countable K → Does (frame K c) (moment K c) (run b (model K left) (model K right)) (ran_answer r) (moment K c')

  -- the outcome of ask, which changes nothing
  abbrev pub Asks : Frame → Moment → (s t v : ℕ) → Result Bool Refusal → Type 0
  Asks f m s t v r = Countable K → Does f m (ask s t v) (asked_answer r) m

  -- the outcome of a settle that is refused, which changes nothing
  abbrev pub SettleRefused : Comparison S Sweeping → Answer → Type 0
  SettleRefused c a = Does (frame K c) (moment K c) settle a (moment K c)

  -- the outcome of a settle that is granted
  pub record Settles (c : Comparison S Sweeping) (d : Settled S) : Type 0 where
    pub same_frame : frame K d ≡ frame K c
    pub does : Does (frame K c) (moment K c) settle (granted []) (settled_moment K d)

  -- the outcome of a verdict, which changes nothing
  abbrev pub Judges : Settled S → S → Type 0
  Judges d r = Does (frame K d) (settled_moment K d) verdict (granted (members K.variants (K.holds r))) (settled_moment K d)
