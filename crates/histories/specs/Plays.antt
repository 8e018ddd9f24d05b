-- What becomes of requests.
use Rattle.std.specs.Prelude.{◌≡◌, ℕ, ◌≤◌, List, ◌∷◌, ◌++◌, map, length, take, drop, Some, None, Option, Result}
use Rattle.theory.specs.Calls.{Moment, Does, Takes}
use Rattle.theory.specs.Histories.{frame_of, Led, History, Promised}
use Rattle.theory.specs.Histories as theory
use Rattle.variants.specs.declared.VariantSet.{Ghosts as Kind}
use Rattle.variants.specs.Kinds.{Countable}
use Rattle.refusals.specs.declared.Refusal.{Refusal}
use Rattle.families.specs.declared.Family.{Family}
use Rattle.families.specs.Drafts.{model}
use Rattle.comparing.specs.declared.Comparison.{Comparison}
use Rattle.comparing.specs.declared.Sweeping.{Sweeping}
use Rattle.histories.specs.declared.Request.{Request}
use Rattle.histories.specs.declared.Reply.{Reply}
use Rattle.histories.specs.declared.Turn.{Turn}
use Rattle.histories.specs.declared.Stage.{Stage}
use Rattle.histories.specs.declared.Stage.TheVariants.{Open}
use Rattle.histories.specs.declared.Taken.{Taken}
use Rattle.histories.specs.declared.Played.{Played}
use Rattle.histories.specs.Turns.{call_of, reply_answer, told}
use Rattle.histories.specs.Stages.{stage_table, stage_frame, stage_moment, RoomKept}

module _ {S : Type 0} (K : Kind S) (left right : Family S) where
  -- an answer is the outcome of the request; without one the comparison does not take it as it stands, and is what it was
  abbrev pub Replies : Stage S → Request → Stage S → Option (Result (Reply S) Refusal) → Type 0
  Replies before x after None =
      (Takes (stage_moment K before) (call_of (model K left) (model K right) x) → ⊥) × (stage_moment K after ≡ stage_moment K before)
  Replies before x after (Some r) =
      Countable K → Does (stage_frame K before) (stage_moment K before) (call_of (model K left) (model K right) x) (reply_answer K r) (stage_moment K after)

  -- one request
  pub record TakesOne (before : Stage S) (x : Request) (t : Taken S) : Type 0 where
    pub room : RoomKept (stage_table before) (stage_table t.stage)
    pub frame : stage_frame K t.stage ≡ stage_frame K before
    pub replies : Replies before x t.stage t.reply

  -- one request, answered, after which the comparison still takes sweeps
  abbrev pub StaysOpen : Comparison S Sweeping → Request → Result (Reply S) Refusal → Comparison S Sweeping → Type 0
  StaysOpen before x r after = TakesOne (Open before) x (record { stage = Open after; reply = Some r })

  -- whatever history led to the moment, the turns lead on from it to a moment that keeps what is promised
  abbrev pub KeepsPromises : Moment → List theory.Turn → Type 0
  KeepsPromises from turns =
      (list : S) (earlier : List theory.Turn) → History K.variants (model K left) (model K right) (K.holds list) earlier from →
      (m : Moment) × History K.variants (model K left) (model K right) (K.holds list) (turns ++ earlier) m
      × Promised K.variants (model K left) (model K right) (K.holds list) (turns ++ earlier) m

  -- requests in order, up to the first that is not taken
  pub record Plays (before : Stage S) (turns : List (Turn S)) (after : List (Turn S)) (p : Played S) : Type 0 where
    -- the requests stand as they were, and the turns that were not done too
    pub some : p.done ≤ length turns
    pub requests : map (λ x. x.request) after ≡ map (λ x. x.request) turns
    pub untouched : drop p.done after ≡ drop p.done turns
    -- later places of the memory are untouched
    pub room : RoomKept (stage_table before) (stage_table p.stage)
    pub frame : stage_frame K p.stage ≡ stage_frame K before
    -- the answers lead to the moment of the comparison that is given back
    pub leads : Countable K → Led (stage_frame K before) (model K left) (model K right) (stage_moment K before) (told K (model K left) (model K right) (take p.done after)) (stage_moment K p.stage)
    -- the first request that was not done is not taken
    pub stops : (x : Turn S) (rest : List (Turn S)) → drop p.done turns ≡ x ∷ rest → Takes (stage_moment K p.stage) (call_of (model K left) (model K right) x.request) → ⊥
    -- what was answered, to all requests and to the first k, keeps the promises of a comparison that began with these families
    pub promises : Countable K → stage_frame K before ≡ frame_of K.variants (model K left) (model K right) →
        (k : ℕ) → k ≤ p.done → KeepsPromises (stage_moment K before) (told K (model K left) (model K right) (take k after))
