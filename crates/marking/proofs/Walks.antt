-- From row to row, to the end.
use Rattle.std.proofs.Common.{◌≡◌, ℕ, ◌+◌, ◌<◌, true, Ok, Err, arith}
use Rattle.theory.specs.Sets.{Variants}
use Rattle.theory.specs.Marks.{left, at_step}
use Rattle.theory.specs.Marks as marks
use Rattle.theory.specs.Judgements.{Clear}
use Rattle.theory.proofs.Clearing as theory
use Rattle.variants.specs.declared.VariantSet.{Ghosts as Kind}
use Rattle.tables.proofs.Places.{grid_inside}
use Rattle.marking.specs.declared.Marking.{Marking}
use Rattle.marking.specs.Faults.{Marked, marked_answer}
use Rattle.marking.specs.Judgements.{Found, left_of, right_of, candidate_of}

module _ {S : Type 0} (K : Kind S) (m : Marking S) where
  -- the candidate has pairs of the families' states only
  candidate_inside : (s t v : ℕ) → candidate_of K m s t v ≡ true → (s < (left_of K m).states) × (t < (right_of K m).states)
  candidate_inside s t v h =
      let i = grid_inside K m.candidate.rows m.candidate.cols m.candidate.cells.now s t v h in
      (omega (arith, i.0, m.rows), omega (arith, i.1, m.cols))

  module _ (listed : Variants) where
    pub clear_row : (s : ℕ) → Clear (left_of K m) (right_of K m) listed (candidate_of K m) (at_step left s (right_of K m).states 0) →
        Clear (left_of K m) (right_of K m) listed (candidate_of K m) (at_step left (s + 1) 0 0)
    clear_row = theory.clear_row (left_of K m) (right_of K m) listed (candidate_of K m) (left_of K m).states (right_of K m).states candidate_inside

    pub found_all : (r : Marked) → Found (left_of K m) (right_of K m) listed (candidate_of K m) (at_step left (left_of K m).states 0 0) r →
        marks.Marked (left_of K m) (right_of K m) listed (candidate_of K m) (marked_answer r)
    found_all (Ok _) clear = theory.clear_all (left_of K m) (right_of K m) listed (candidate_of K m) (left_of K m).states (right_of K m).states candidate_inside clear
    found_all (Err f) faulty = faulty
