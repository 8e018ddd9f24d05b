-- The reach while it is worked out.
use Rattle.std.specs.Prelude.{◌≡◌, ℕ}
use Rattle.theory.specs.Systems as theory
use Rattle.theory.specs.Tables.{Table}
use Rattle.theory.specs.Reach.{Reaches, Rounds, reach_begun}
use Rattle.variants.specs.declared.VariantSet.{Ghosts as Kind}
use Rattle.variants.specs.Kinds.{Countable}
use Rattle.families.specs.Drafts.{model}
use Rattle.tables.specs.declared.Table as tables
use Rattle.tables.specs.Tables.{standing, Resembles}
use Rattle.reaching.specs.declared.Reaching.{Reaching}

module _ {S : Type 0} (K : Kind S) where
  -- the reach, as far as it is worked out
  abbrev pub worked : Reaching S → Table
  worked x = standing K x.table.now

  -- the family whose reach it is
  abbrev pub family_of : Reaching S → theory.Family
  family_of x = model K x.family.now

  -- the table holds the reach of F, worked out in r rounds
  pub record WorkedOut (F : theory.Family) (r : ℕ) (T : tables.Table S) : Type 0 where
    pub exact : Reaches K.variants F (standing K T)
    pub rounds : Countable K → Rounds F.states F.steps (reach_begun K.variants F.states) r (standing K T)

-- the family and the table are the same ones, and in the table only the sets of its pairs may differ
pub record Kept {S : Type 0} (old new : Reaching S) : Type 0 where
  pub family : new.family.now ≡ old.family.now
  pub memory : new.table.ghost_name ≡ old.table.ghost_name
  pub table : Resembles old.table.now new.table.now
