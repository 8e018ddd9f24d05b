-- Requests and replies in the words of the theory.
use Rattle.std.specs.Prelude.{ℕ, cond, List, [], ◌∷◌, ◌++◌, Some, None, Option, Result}
use Rattle.theory.specs.Sets.{members}
use Rattle.theory.specs.Systems.{Family}
use Rattle.theory.specs.Answers.{Answer, refused}
use Rattle.theory.specs.Calls.{Frame, Moment, Does, Call, sweep, run, ask, settle, verdict}
use Rattle.theory.specs.Histories as theory
use Rattle.variants.specs.declared.VariantSet.{Ghosts as Kind}
use Rattle.variants.specs.Kinds.{Countable}
use Rattle.refusals.specs.declared.Refusal.{Refusal}
use Rattle.refusals.specs.Numbers.{answer}
use Rattle.histories.specs.declared.Request.{Request}
use Rattle.histories.specs.declared.Request.TheVariants.{Sweep, Run, Ask, Settle, Verdict}
use Rattle.histories.specs.declared.Reply.{Reply}
use Rattle.histories.specs.declared.Reply.TheVariants as reply
use Rattle.histories.specs.declared.Turn.{Turn}

-- the call that a request stands for, with both families
abbrev pub call_of : Family → Family → Request → Call
call_of L R Sweep = sweep L R
call_of L R (Run b) = run b L R
call_of L R (Ask s t v) = ask s t v
call_of L R Settle = settle
call_of L R Verdict = verdict

-- a number by which no call is refused: there is no answer
abbrev pub unanswered : Answer
unanswered = refused 255

module _ {S : Type 0} (K : Kind S) where
  -- a reply as numbers: yes is 1 and no is 0, a verdict is the list of its variants
  abbrev pub values : Reply S → List ℕ
  values (reply.Struck k) = k ∷ []
  values (reply.Ran j k) = j ∷ k ∷ []
  values (reply.Stands b) = cond b 1 0 ∷ []
  values reply.Settled = []
  values (reply.Verdict x) = members K.variants (K.holds x)

  -- what a request is answered: its reply, or the number by which it is refused
  abbrev pub reply_answer : Result (Reply S) Refusal → Answer
  reply_answer = answer values

  -- the outcome of ask, which changes nothing
  abbrev pub Asks : Frame → Moment → (s t v : ℕ) → Result (Reply S) Refusal → Type 0
  Asks f m s t v r = Countable K → Does f m (ask s t v) (reply_answer r) m

  -- the answer that stands beside a request
  abbrev pub answer_beside : Option (Result (Reply S) Refusal) → Answer
  answer_beside None = unanswered
  answer_beside (Some r) = reply_answer r

  -- a request and its answer
  abbrev pub turn_of : Family → Family → Turn S → theory.Turn
  turn_of L R x = record { call = call_of L R x.request; answer = answer_beside x.reply }

  -- the turns as a history has them, the newest first
  abbrev pub told : Family → Family → List (Turn S) → List theory.Turn
  told L R [] = []
  told L R (x ∷ xs) = told L R xs ++ turn_of L R x ∷ []
