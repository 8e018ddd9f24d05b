-- The least variant in which a step is not followed, as it is computed.
use Rattle.std.proofs.Common.{◌≡◌, ℕ, ◌<◌, Bool, true, not, ◌&&◌, Some, None, Decides, Option, sym, ap, ◌∙◌, subst}
use Rattle.theory.specs.Systems as systems
use Rattle.theory.specs.Marks as theory
use Rattle.theory.specs.Judgements.{ReachRow, Judged}
use Rattle.theory.proofs.Judgements.{followed_tested, judged_none, judged_some}
use Rattle.variants.specs.declared.VariantSet.{Ghosts as Kind}
use Rattle.variants.specs.Sets.{Least}
use Rattle.variants.specs.Kinds.{Countable}
use Rattle.families.specs.declared.parts.Step.{Step}
use Rattle.families.specs.Models.{step_of}
use Rattle.families.proofs.Models.{family_between}
use Rattle.tables.specs.Cells.{cell}
use Rattle.tables.specs.Tables.{shown}
use Rattle.tables.proofs.Places.{grid_within}
use Rattle.following.specs.declared.Side.{Side}
use Rattle.following.specs.declared.Side.TheVariants.{Left, Right}
use Rattle.following.specs.declared.View.{View}
use Rattle.following.specs.declared.Position.{Position}
use Rattle.following.specs.Views.{side_of, seen, follower_of, followed_by}

module _ {S : Type 0} (K : Kind S) (law : (x : S) (v : ℕ) → K.holds x v ≡ true → v < K.variants) where
  -- a view holds the kind's variants only
  seen_within : (w : View S) (s t v : ℕ) → seen K w s t v ≡ true → v < K.variants
  seen_within w s t v h = from w.side h
    where
      from : (side : Side) → theory.facing (side_of side) (shown K w.grid) s t v ≡ true → v < K.variants
      from Left e = (grid_within K law w.grid.rows w.grid.cols w.grid.cells.now s t v e).2
      from Right e = (grid_within K law w.grid.rows w.grid.cols w.grid.cells.now t s v e).2

  module _ (p : Position S) (x : Step S) (few : Countable K) (inside : p.other < (follower_of K p).states)
      (reached : ReachRow K.variants (follower_of K p) p.other (cell K p.reach.now)) (leaves : x.from ≡ p.own) (due followed lacking : S)
      (is_due : (v : ℕ) → K.holds due v ≡ (seen K p.view p.own p.other v && K.holds x.set v))
      (is_followed : (v : ℕ) → K.holds followed v ≡ followed_by K p x v)
      (is_lacking : (v : ℕ) → K.holds lacking v ≡ (K.holds due v && not (K.holds followed v))) where
    abbrev F : systems.Family
    F = follower_of K p

    told : (v : ℕ) → v < K.variants → Decides (K.holds followed v) (theory.StepFollowed F (seen K p.view) p.own p.other (step_of K x) v)
    told v l =
        subst (λ (b : Bool). Decides b (theory.StepFollowed F (seen K p.view) p.own p.other (step_of K x) v)) (sym (is_followed v))
        (followed_tested K.variants F (family_between K p.follower.now) p.other inside (cell K p.reach.now) reached (seen K p.view) p.own (step_of K x) v l)

    is : (v : ℕ) → K.holds lacking v ≡ ((seen K p.view p.own p.other v && K.holds x.set v) && not (K.holds followed v))
    is v = is_lacking v ∙ ap (λ (b : Bool). b && not (K.holds followed v)) (is_due v)

    pub judged_least : (r : Option ℕ) → Least (K.holds lacking) r → Judged F (seen K p.view) p.own p.other (step_of K x) r
    judged_least None none =
        judged_none K.variants few F (seen K p.view) p.own p.other (seen_within p.view p.own p.other) (step_of K x) leaves (K.holds followed) (K.holds lacking) told is none
    judged_least (Some v) least =
        judged_some K.variants few F (seen K p.view) p.own p.other (seen_within p.view p.own p.other) (step_of K x) leaves (K.holds followed) (K.holds lacking) told is v least.1 least.2
