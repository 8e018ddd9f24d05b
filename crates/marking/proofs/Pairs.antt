-- A side's steps at a pair.
use Rattle.std.proofs.Common.{◌≡◌, ℕ, ◌<◌, true, ◌↔◌, [], ◌∷◌, Option, sym, refl, ap, ◌∙◌, subst, subst₂, inl, inr, arith}
use Rattle.theory.specs.Sets.{Variants}
use Rattle.theory.specs.Systems.{machine}
use Rattle.theory.specs.Systems as theory
use Rattle.theory.specs.Tables.{Table}
use Rattle.theory.specs.Answers.{granted}
use Rattle.theory.specs.Bisimulations.{Silently}
use Rattle.theory.specs.Marks.{Side, left, right, mover, follower, own, other, facing, at_starts, at_step, of_step, kind_of}
use Rattle.theory.specs.Marks as marks
use Rattle.theory.specs.Judgements.{ReachRow, AllFollowed, FirstUnfollowed, Clear}
use Rattle.theory.proofs.Marking.{met_followed}
use Rattle.theory.proofs.Clearing.{side_fault, clear_right, clear_next}
use Rattle.variants.specs.declared.VariantSet.{Ghosts as Kind}
use Rattle.variants.specs.Kinds.{Countable}
use Rattle.families.specs.declared.Family.{Family}
use Rattle.families.specs.Drafts.{model}
use Rattle.tables.specs.Cells.{cell}
use Rattle.following.specs.declared.Position.{Position}
use Rattle.following.specs.Views.{seen, follower_of}
use Rattle.marking.specs.declared.judging.Lapse.{Lapse}
use Rattle.marking.specs.declared.Marking.{Marking}
use Rattle.marking.specs.declared.Fault.{Fault}
use Rattle.marking.specs.Faults.{fault_answer}
use Rattle.marking.specs.Judgements.{Lapsed, after, left_of, right_of, candidate_of, reach_by, Stands, RowsReached, JudgesSteps}

-- the judgement of a side's steps, and what comes after it
module _ (L R : theory.Family) (listed : Variants) (H : Table) (s t : ℕ) where
  -- what comes before the left steps comes before the right steps
  before_right : Clear L R listed H (at_step right s t 0) → Clear L R listed H (at_step left s t 0)
  before_right clear at_starts b = clear at_starts tt
  before_right clear (at_step side s' t' j) (inl b) = clear (at_step side s' t' j) (inl b)
  before_right clear (at_step left s' t' j) (inr b) = absurd (omega (arith, b.2))
  before_right clear (at_step right s' t' j) (inr b) = absurd b.2

  -- and so do the left steps
  lefts_followed : Clear L R listed H (at_step right s t 0) → AllFollowed R H s t L.steps
  lefts_followed clear j x l at v due = met_followed L R listed H left s t j v x at (clear (at_step left s t j) (inr (refl, refl, tt)) v (of_step at due.0 due.1 due.2))

  pub side_clear : (side : Side) → Clear L R listed H (at_step side s t 0) →
      AllFollowed (follower side L R) (facing side H) (own side s t) (other side s t) (mover side L R).steps → Clear L R listed H (after side s t)
  side_clear left clear all = clear_right L R listed H s t clear all
  side_clear right clear all = clear_next L R listed H s t (before_right clear) (lefts_followed clear) all

  pub side_faulty : (side : Side) → Clear L R listed H (at_step side s t 0) → (l : Lapse) →
      FirstUnfollowed (follower side L R) (facing side H) (own side s t) (other side s t) (mover side L R).steps l.step l.variant →
      (kind : ℕ) → kind ≡ kind_of side → (f : Fault) → fault_answer f ≡ granted (kind ∷ s ∷ t ∷ l.step ∷ l.variant ∷ []) → marks.Marked L R listed H (fault_answer f)
  side_faulty side clear l is kind e f answers =
      subst (marks.Marked L R listed H) (sym (answers ∙ ap (λ (k : ℕ). granted (k ∷ s ∷ t ∷ l.step ∷ l.variant ∷ [])) e))
      (side_fault L R listed H side s t clear l.step l.variant is)

-- what is judged at the position in which a side stands
module _ {S : Type 0} (K : Kind S) (m : Marking S) (side : Side) (s t : ℕ) (p : Position S) (stands : Stands K m side s t p) where
  abbrev L : theory.Family
  L = left_of K m

  abbrev R : theory.Family
  R = right_of K m

  follower_inside : (q : Side) → s < L.states → t < R.states → other q s t < (follower q L R).states
  follower_inside left ls lt = lt
  follower_inside right ls lt = ls

  follower_reached : (q : Side) → RowsReached K m s t → ReachRow K.variants (follower q L R) (other q s t) (reach_by K m q (other q s t))
  follower_reached left rows = rows.of_right
  follower_reached right rows = rows.of_left

  row_reached : RowsReached K m s t → ReachRow K.variants (follower side L R) (other side s t) (cell K p.reach.now)
  row_reached rows j v lj lv =
      subst (λ (b : _). (b ≡ true) ↔ Silently (machine (follower side L R) v) (other side s t) j) (sym (stands.reaches j v))
      (follower_reached side rows j v lj lv)

  module _ (family : Family S) (moves : model K family ≡ mover side L R) where
    lapsed : (r : Option Lapse) → Lapsed (follower_of K p) (seen K p.view) p.own p.other (model K family).steps r →
        Lapsed (follower side L R) (facing side (candidate_of K m)) (own side s t) (other side s t) (mover side L R).steps r
    lapsed r h =
        subst₂ (λ (F : theory.Family) (H : Table). Lapsed F H (own side s t) (other side s t) (mover side L R).steps r) stands.follows stands.sees
        (subst₂ (λ (a b : ℕ). Lapsed (follower_of K p) (seen K p.view) a b (mover side L R).steps r) stands.is_own stands.is_other
        (subst (λ (F : theory.Family). Lapsed (follower_of K p) (seen K p.view) p.own p.other F.steps r) moves h))

    pub side_judged : (r : Option Lapse) → JudgesSteps K p family r → Countable K → s < L.states → t < R.states → RowsReached K m s t →
        Lapsed (follower side L R) (facing side (candidate_of K m)) (own side s t) (other side s t) (mover side L R).steps r
    side_judged r judged few ls lt rows =
        lapsed r
        (judged few
        (subst₂ (λ (F : theory.Family) (a : ℕ). a < F.states) (sym stands.follows) (sym stands.is_other) (follower_inside side ls lt))
        (subst₂ (λ (F : theory.Family) (a : ℕ). ReachRow K.variants F a (cell K p.reach.now)) (sym stands.follows) (sym stands.is_other) (row_reached rows)))
