-- A comparison between two requests, settled or not.
use Rattle.std.specs.Prelude.{◌≡◌, ◌*◌, length, drop}
use Rattle.theory.specs.Calls.{Frame, Moment}
use Rattle.variants.specs.declared.VariantSet.{Ghosts as Kind}
use Rattle.tables.specs.declared.Table.{Table}
use Rattle.comparing.specs.Moments.{frame, moment, settled_moment}
use Rattle.histories.specs.declared.Stage.{Stage}
use Rattle.histories.specs.declared.Stage.TheVariants.{Open, Settled}

-- the table of the comparison
abbrev pub stage_table : {S : Type 0} → Stage S → Table S
stage_table (Open c) = c.table
stage_table (Settled d) = d.table

module _ {S : Type 0} (K : Kind S) where
  -- what it keeps from begin
  abbrev pub stage_frame : Stage S → Frame
  stage_frame (Open c) = frame K c
  stage_frame (Settled d) = frame K d

  -- and its moment
  abbrev pub stage_moment : Stage S → Moment
  stage_moment (Open c) = moment K c
  stage_moment (Settled d) = settled_moment K d

-- tables of the same size in memory of the same length, the same beyond its pairs
pub record RoomKept {S : Type 0} (T U : Table S) : Type 0 where
  pub rows : U.rows ≡ T.rows
  pub cols : U.cols ≡ T.cols
  pub size : length U.cells.now ≡ length T.cells.now
  pub beyond : drop (T.rows * T.cols) U.cells.now ≡ drop (T.rows * T.cols) T.cells.now
