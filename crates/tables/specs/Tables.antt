-- Tables of variant sets over lent memory.
use Rattle.std.specs.Prelude.{◌≡◌, ℕ, ◌+◌, ◌*◌, ◌<◌, ◌≤◌, cond, ◌&&◌, length, drop, ◌==◌}
use Rattle.theory.specs.Sets.{Variants}
use Rattle.theory.specs.Tables as theory
use Rattle.variants.specs.declared.VariantSet.{Ghosts as Kind}
use Rattle.tables.specs.declared.Table.{Table}
use Rattle.tables.specs.declared.reading.Grid.{Grid}
use Rattle.tables.specs.Cells.{grid}

-- what the sets in memory show at the pairs
abbrev pub shown : {S : Type 0} → Kind S → Grid S → theory.Table
shown K g = grid K g.rows g.cols g.cells.now

-- what stands at the pairs of a table
abbrev pub standing : {S : Type 0} → Kind S → Table S → theory.Table
standing K T = grid K T.rows T.cols T.cells.now

-- a table after one pair was written
abbrev pub written : theory.Table → ℕ → ℕ → Variants → theory.Table
written T s t X s' t' v = cond (s' == s && t' == t) (X v) (T s' t' v)

module _ {S : Type 0} (T : Table S) where
  -- the memory has a place for every pair
  abbrev pub Fits : Type 0
  Fits = T.rows * T.cols ≤ length T.cells.now

  -- the table has the pair, and the memory its place
  pub record Has (s t : ℕ) : Type 0 where
    pub row : s < T.rows
    pub col : t < T.cols
    pub place : s * T.cols + t < length T.cells.now

  -- a table of the same size over the same memory, in which only the sets of its pairs may differ
  pub record Resembles (U : Table S) : Type 0 where
    pub rows : U.rows ≡ T.rows
    pub cols : U.cols ≡ T.cols
    pub memory : U.cells.ghost_name ≡ T.cells.ghost_name
    pub size : length U.cells.now ≡ length T.cells.now
    pub beyond : drop (T.rows * T.cols) U.cells.now ≡ drop (T.rows * T.cols) T.cells.now

  -- the same table over the same memory, nothing differs
  pub record Same (U : Table S) : Type 0 where
    pub rows : U.rows ≡ T.rows
    pub cols : U.cols ≡ T.cols
    pub memory : U.cells.ghost_name ≡ T.cells.ghost_name
    pub cells : U.cells.now ≡ T.cells.now
