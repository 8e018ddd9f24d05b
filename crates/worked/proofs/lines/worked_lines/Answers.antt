use Rattle.std.proofs.Common.{false, eqb, refl}
use Rattle.std.proofs.lemmas.Bool.{and_right}
use Rattle.worked.proofs.Sweeping.{one_sweep, three_sweeps, two_at_most, nine_at_most, crossed, labels_differ, labels_agree}
use Rattle.worked.proofs.Candidates.{paired_accepted, unpaired_faulty, overpaired_faulty}
use Rattle.worked.proofs.lines.worked_lines.Goals as goal

pub returns : goal.returns
returns c =
    record {
      lines = record {
        one_sweep = one_sweep;
        three_sweeps = three_sweeps;
        two_at_most = two_at_most;
        nine_at_most = nine_at_most;
        crossed = crossed;
        labels_differ = labels_differ;
        labels_agree = labels_agree;
        pair_size = refl;
        pair_last = λ held bits. refl;
        pair_beyond = λ w. and_right (eqb w 65) false refl;
        paired_accepted = paired_accepted;
        unpaired_faulty = unpaired_faulty;
        overpaired_faulty = overpaired_faulty;
      };
      cases = refl;
    }
