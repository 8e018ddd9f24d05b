-- A table of pairs as one side sees it, and the judgement of a step there.
use Rattle.std.specs.Prelude.{ℕ, ◌<◌, Bool, Option}
use Rattle.theory.specs.Tables.{Table}
use Rattle.theory.specs.Systems.{Family}
use Rattle.theory.specs.Marks as theory
use Rattle.theory.specs.Judgements.{ReachRow, Judged, by_way_of, some_below}
use Rattle.variants.specs.declared.VariantSet.{Ghosts as Kind}
use Rattle.variants.specs.Kinds.{Countable}
use Rattle.families.specs.declared.parts.Step.{Step}
use Rattle.families.specs.Models.{step_of}
use Rattle.families.specs.Drafts.{model}
use Rattle.tables.specs.Cells.{cell}
use Rattle.tables.specs.Tables.{shown}
use Rattle.following.specs.declared.Side.{Side}
use Rattle.following.specs.declared.Side.TheVariants.{Left, Right}
use Rattle.following.specs.declared.View.{View}
use Rattle.following.specs.declared.Position.{Position}

-- the side in the words of the theory
abbrev pub side_of : Side → theory.Side
side_of Left = theory.left
side_of Right = theory.right

module _ {S : Type 0} (K : Kind S) where
  -- what the view has at a pair, its side's own state first
  abbrev pub seen : View S → Table
  seen w = theory.facing (side_of w.side) (shown K w.grid)

  module _ (p : Position S) where
    -- the family that is to follow
    abbrev pub follower_of : Family
    follower_of = model K p.follower.now

    -- whether the step is followed in v by way of r
    abbrev pub ways : Step S → ℕ → ℕ → Bool
    ways x v r = by_way_of follower_of.steps (cell K p.reach.now) (seen p.view) p.own (step_of K x) v r

    -- whether the step is followed in v by way of some state
    abbrev pub followed_by : Step S → ℕ → Bool
    followed_by x v = some_below follower_of.states (ways x v)

    -- r is the judgement of the step at the position, if its reach is the follower's from the other state
    abbrev pub Lacks : Step S → Option ℕ → Type 0
    Lacks x r =
        Countable K → p.other < follower_of.states → ReachRow K.variants follower_of p.other (cell K p.reach.now) →
        Judged follower_of (seen p.view) p.own p.other (step_of K x) r
