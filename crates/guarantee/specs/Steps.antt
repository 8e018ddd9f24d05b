-- A comparison that is stepped through, from begin on.
use Rattle.std.specs.Prelude.{◌≡◌, ℕ, ◌≤◌, List, ◌∷◌, map, length, take, drop}
use Rattle.theory.specs.Systems as theory
use Rattle.theory.specs.Calls.{Moment, Takes}
use Rattle.theory.specs.Histories.{frame_of, History, Promised}
use Rattle.variants.specs.declared.VariantSet.{Ghosts as Kind}
use Rattle.families.specs.declared.Family.{Family}
use Rattle.families.specs.Drafts.{model}
use Rattle.histories.specs.declared.Turn.{Turn}
use Rattle.histories.specs.declared.Played.{Played}
use Rattle.histories.specs.Turns.{call_of, told}
use Rattle.histories.specs.Stages.{stage_table, stage_frame, stage_moment}
use Rattle.guarantee.specs.Wholes.{BeyondUntouched}

module _ {S : Type 0} (K : Kind S) (left right : Family S) (list : S) where
  abbrev L : theory.Family
  L = model K left

  abbrev R : theory.Family
  R = model K right

  -- the turns are a history of a comparison that began with these families and the list, and led to the moment
  abbrev pub IsHistory : List (Turn S) → Moment → Type 0
  IsHistory turns = History K.variants L R (K.holds list) (told K L R turns)

  -- what is promised holds at the moment that the turns led to
  abbrev pub KeepsPromises : List (Turn S) → Moment → Type 0
  KeepsPromises turns = Promised K.variants L R (K.holds list) (told K L R turns)

  -- the requests were carried out in order, each with its answer beside it, up to the first that was not taken
  pub record StepsThrough (lent : List S) (turns answered : List (Turn S)) (p : Played S) : Type 0 where
    -- the requests stand as they were, and the turns that were not done too
    pub some : p.done ≤ length turns
    pub requests : map (λ x. x.request) answered ≡ map (λ x. x.request) turns
    pub untouched : drop p.done answered ≡ drop p.done turns
    -- what was answered is a history, which led to the comparison that is given back
    pub frame : stage_frame K p.stage ≡ frame_of K.variants L R
    pub history : IsHistory (take p.done answered) (stage_moment K p.stage)
    pub memory : BeyondUntouched L.states R.states lent (stage_table p.stage)
    -- the first request that was not done is not taken
    pub stops : (x : Turn S) (rest : List (Turn S)) → drop p.done turns ≡ x ∷ rest → Takes (stage_moment K p.stage) (call_of L R x.request) → ⊥
    -- at once and after each request, what is promised holds
    pub promises : (k : ℕ) → k ≤ p.done → (m : Moment) × IsHistory (take k answered) m × KeepsPromises (take k answered) m
