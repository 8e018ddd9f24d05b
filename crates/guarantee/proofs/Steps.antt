-- Requests that are carried out from begin on.
use Rattle.std.proofs.Common.{◌≡◌, ℕ, ◌*◌, ◌≤◌, List, [], take, ap, ◌∙◌}
use Rattle.std.proofs.lemmas.List.{append-nil}
use Rattle.theory.specs.Systems as theory
use Rattle.theory.specs.Calls.{Frame, Moment}
use Rattle.theory.specs.Histories.{at_once}
use Rattle.variants.specs.declared.VariantSet.{Ghosts as Kind}
use Rattle.variants.specs.Kinds.{Countable}
use Rattle.families.specs.declared.Family.{Family}
use Rattle.families.specs.Drafts.{model}
use Rattle.tables.specs.declared.Table.{Table}
use Rattle.comparing.specs.declared.Comparison.{Comparison}
use Rattle.comparing.specs.declared.Sweeping.{Sweeping}
use Rattle.comparing.specs.Moments.{Begun}
use Rattle.histories.specs.declared.Turn.{Turn}
use Rattle.histories.specs.declared.Stage.TheVariants.{Open}
use Rattle.histories.specs.declared.Played.{Played}
use Rattle.histories.specs.Turns.{told}
use Rattle.histories.specs.Stages.{RoomKept}
use Rattle.histories.specs.Plays.{Plays}
use Rattle.guarantee.specs.Wholes.{BeyondUntouched}
use Rattle.guarantee.specs.Steps.{IsHistory, KeepsPromises, StepsThrough}

module _ {S : Type 0} (K : Kind S) (left right : Family S) (list : S) (lent : List S) (c : Comparison S Sweeping) (begun : Begun K left right list lent c) where
  abbrev L : theory.Family
  L = model K left

  abbrev R : theory.Family
  R = model K right

  -- what a comparison that goes on from begin leaves untouched
  pub untouched_still : (T : Table S) → RoomKept c.table T → BeyondUntouched L.states R.states lent T
  untouched_still T kept =
      let pairs : c.table.rows * c.table.cols ≡ L.states * R.states = ap (λ (f : Frame). f.left_states * f.right_states) begun.begun_frame in
      record {
        size = kept.size ∙ begun.size;
        beyond = rw pairs at kept.beyond ∙ begun.beyond;
      }

  module _ (few : Countable K) (turns answered : List (Turn S)) (p : Played S) (plays : Plays K left right (Open c) turns answered p) where
    promises : (k : ℕ) → k ≤ p.done → (m : Moment) × IsHistory K left right list (take k answered) m × KeepsPromises K left right list (take k answered) m
    promises k l =
        let h = plays.promises few begun.begun_frame k l list [] (rw begun.begun_moment at_once) in
        let alone = append-nil (told K L R (take k answered)) in
        (h.0, rw alone at h.1, rw alone at h.2)

    pub steps_through : StepsThrough K left right list lent turns answered p
    steps_through =
        record {
          some = plays.some;
          requests = plays.requests;
          untouched = plays.untouched;
          frame = plays.frame ∙ begun.begun_frame;
          history = rw (begun.begun_frame, begun.begun_moment) at (plays.leads few);
          memory = untouched_still _ plays.room;
          stops = plays.stops;
          promises = promises;
        }
