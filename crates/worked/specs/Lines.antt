-- The worked lines: what the rules alone say of them.
use Rattle.std.specs.Prelude.{◌≡◌, ℕ, ◌+◌, Bool, false, ◌&&◌, List, [], ◌∷◌, ◌==◌}
use Rattle.theory.specs.Systems.{Family}
use Rattle.variants.specs.Sets.{capped, just}
use Rattle.masks.specs.Words.{word}
use Rattle.pairs.specs.Joins.{joined}
use Rattle.worked.specs.Words.{step, labelled, family, Entry, at, sweeps, runs, settles, settle_refused, verdict_is, Leaves, ComesOut, MarksAs}

-- the first line: after action 1 the right side does action 2 in both variants, the left side 2 or 3
abbrev pub first_left : Family
first_left = family 2 (step 0 1 1 (0 ∷ 1 ∷ []) ∷ step 1 2 0 (0 ∷ []) ∷ step 1 3 0 (1 ∷ []) ∷ [])

abbrev pub first_right : Family
first_right = family 2 (step 0 1 1 (0 ∷ 1 ∷ []) ∷ step 1 2 0 (0 ∷ 1 ∷ []) ∷ [])

-- in each variant the only reply leads where that variant is stuck
abbrev pub crossed_left : Family
crossed_left = family 3 (step 0 1 1 (0 ∷ 1 ∷ []) ∷ step 1 2 2 (0 ∷ 1 ∷ []) ∷ [])

abbrev pub crossed_right : Family
crossed_right = family 4 (step 0 1 1 (0 ∷ []) ∷ step 0 1 2 (1 ∷ []) ∷ step 1 2 3 (1 ∷ []) ∷ step 2 2 3 (0 ∷ []) ∷ [])

-- one state and no steps, with a label
abbrev pub resting : ℕ → Family
resting label = labelled label 1 []

-- the second line: in variant 1 the right side takes a silent step first
abbrev pub second_left : Family
second_left = family 2 (step 0 1 1 (0 ∷ 1 ∷ []) ∷ [])

abbrev pub second_right : Family
second_right = family 3 (step 0 0 1 (1 ∷ []) ∷ step 0 1 2 (0 ∷ []) ∷ step 1 1 2 (1 ∷ []) ∷ [])

-- candidates for the second line: the end of the silent step paired in variant 1, in none, in both
abbrev pub paired : List Entry
paired = at 0 0 (0 ∷ 1 ∷ []) ∷ at 0 1 (1 ∷ []) ∷ at 1 2 (0 ∷ 1 ∷ []) ∷ []

abbrev pub unpaired : List Entry
unpaired = at 0 0 (0 ∷ 1 ∷ []) ∷ at 1 2 (0 ∷ 1 ∷ []) ∷ []

abbrev pub overpaired : List Entry
overpaired = at 0 0 (0 ∷ 1 ∷ []) ∷ at 0 1 (0 ∷ 1 ∷ []) ∷ at 1 2 (0 ∷ 1 ∷ []) ∷ []

pub record WorkedLines : Type 0 where
  -- the first sweep strikes 5
  pub one_sweep : Leaves first_left first_right (sweeps 5 ∷ [])
      (((0 ∷ 1 ∷ []) ∷ [] ∷ []) ∷ ([] ∷ (0 ∷ []) ∷ []) ∷ [])
  -- the second strikes 1 and the third 0
  pub three_sweeps : Leaves first_left first_right (sweeps 5 ∷ sweeps 1 ∷ sweeps 0 ∷ [])
      (((0 ∷ []) ∷ [] ∷ []) ∷ ([] ∷ (0 ∷ []) ∷ []) ∷ [])
  -- two sweeps do not settle it
  pub two_at_most : ComesOut first_left first_right (runs 2 2 6 ∷ settle_refused ∷ [])
  -- three do, and variant 0 is left
  pub nine_at_most : ComesOut first_left first_right (runs 9 3 6 ∷ settles ∷ verdict_is (0 ∷ []) ∷ [])
  -- a reply and the pair that it leads to have to hold the same variant, and none does
  pub crossed : ComesOut crossed_left crossed_right (runs 9 3 14 ∷ settles ∷ verdict_is [] ∷ [])
  -- labels that differ relate nothing, and nothing is struck
  pub labels_differ : ComesOut (resting 0) (resting 1) (sweeps 0 ∷ settles ∷ verdict_is [] ∷ [])
  -- equal labels relate the whole list
  pub labels_agree : ComesOut (resting 0) (resting 0) (sweeps 0 ∷ settles ∷ verdict_is (0 ∷ 1 ∷ []) ∷ [])
  -- a Pair of Single and Mask has size 65, its number 64 is the Mask's 63, and the set of only 65 is empty
  pub pair_size : capped (1 + 64) ≡ 65
  pub pair_last : (held : Bool) (bits : ℕ) → joined 1 (λ v. (v == 0) && held) (word bits) 64 ≡ word bits 63
  pub pair_beyond : (w : ℕ) → just 65 65 w ≡ false
  -- the silent step is followed by resting, and the left step after it
  pub paired_accepted : MarksAs second_left second_right paired []
  -- the left step at (0, 0) is not followed in variant 1
  pub unpaired_faulty : MarksAs second_left second_right unpaired (2 ∷ 0 ∷ 0 ∷ 0 ∷ 1 ∷ [])
  -- the left step at (0, 1) is not followed in variant 0
  pub overpaired_faulty : MarksAs second_left second_right overpaired (2 ∷ 0 ∷ 1 ∷ 0 ∷ 0 ∷ [])
