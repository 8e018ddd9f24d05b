-- The lines that are swept: they compute.
use Rattle.std.proofs.Common.{◌≡◌, ℕ, ◌+◌, ◌<◌, false, List, [], ◌∷◌, refl, arith, lit<}
use Rattle.theory.specs.Sets.{card, members}
use Rattle.theory.specs.Counts.{sum_below}
use Rattle.theory.specs.Systems.{Family, agree}
use Rattle.theory.specs.Sweeps.{swept, strikes}
use Rattle.theory.specs.Answers.{granted}
use Rattle.theory.specs.Calls.{Moment, Brings, Ran, spent, quiet, on, swept_once, ran, settled_now, settle_refused as refuses-settle, judged, after_sweep, after_settle, struck, settle, verdict}
use Rattle.theory.specs.Histories.{frame_of, first_moment, Turn, History, at_once, then}
use Rattle.worked.specs.Words.{listed, sweeps, runs, settles, settle_refused, verdict_is, Leaves, ComesOut}
use Rattle.worked.specs.Lines.{first_left, first_right, crossed_left, crossed_right, resting}

-- the families of a comparison are its own
own : (L R : Family) → Brings (frame_of 64 L R) L R
own L R = record { left_states = refl; left_start = refl; right_states = refl; right_start = refl }

pub one_sweep : Leaves first_left first_right (sweeps 5 ∷ []) (((0 ∷ 1 ∷ []) ∷ [] ∷ []) ∷ ([] ∷ (0 ∷ []) ∷ []) ∷ [])
unfolding card sum_below agree
one_sweep = record { moment = _; history = then _ _ at_once (swept_once refl (own _ _)) (λ _. (refl, refl)); table = refl }

pub three_sweeps : Leaves first_left first_right (sweeps 5 ∷ sweeps 1 ∷ sweeps 0 ∷ []) (((0 ∷ []) ∷ [] ∷ []) ∷ ([] ∷ (0 ∷ []) ∷ []) ∷ [])
unfolding card sum_below agree
three_sweeps = record {
  moment = _;
  history = then _ _ (then _ _ (then _ _ at_once (swept_once refl (own _ _)) (λ _. (refl, refl))) (swept_once refl (own _ _)) (λ _. (refl, refl))) (swept_once refl (own _ _)) (λ _. (refl, refl));
  table = refl;
}

-- a comparison whose last sweep struck nothing settles, and its verdict is read
judge : (L R : Family) (turns : List Turn) (m : Moment) → History 64 L R listed turns m → m.settled ≡ false → m.last ≡ struck 0 →
    (n : Moment) × History 64 L R listed (record { call = verdict; answer = granted (members 64 (m.table L.start R.start)) } ∷ record { call = settle; answer = granted [] } ∷ turns) n
judge L R turns m h unsettled still = (after_settle m, then _ _ (then _ _ h (settled_now unsettled still) tt) (judged refl) tt)

-- a run of at most 9 sweeps, of which the third strikes nothing
three_of_nine : (L R : Family) (m : Moment) → 0 < strikes L R 64 m.table → 0 < strikes L R 64 (swept L R m.table) → strikes L R 64 (swept L R (swept L R m.table)) ≡ 0 →
    Ran 64 L R 9 m 3 (strikes L R 64 m.table + (strikes L R 64 (swept L R m.table) + 0)) (after_sweep 64 L R (after_sweep 64 L R (after_sweep 64 L R m)))
three_of_nine L R m p q e = on {b = 8} {j = 2} p (on {b = 7} {j = 1} {k = 0} q (quiet {b = 6} e))

pub two_at_most : ComesOut first_left first_right (runs 2 2 6 ∷ settle_refused ∷ [])
unfolding card sum_below agree
two_at_most = (
  _,
  then _ _
      (then _ _ at_once (ran {b = 2} {j = 2} {k = 6} refl (own _ _) (on {b = 1} {j = 1} {k = 1} (lit< tt) (on {b = 0} {j = 0} {k = 0} (lit< tt) spent))) (λ _. (refl, refl)))
      (refuses-settle refl (λ e. let z : ◌≡◌ {A = ℕ} 1 0 = cc in omega arith))
      tt,
)

pub nine_at_most : ComesOut first_left first_right (runs 9 3 6 ∷ settles ∷ verdict_is (0 ∷ []) ∷ [])
unfolding card sum_below agree
nine_at_most =
    judge first_left first_right _ _
    (then _ _ at_once (ran refl (own _ _) (three_of_nine first_left first_right (first_moment first_left first_right listed) (lit< tt) (lit< tt) refl)) (λ _. (refl, refl))) refl refl

pub crossed : ComesOut crossed_left crossed_right (runs 9 3 14 ∷ settles ∷ verdict_is [] ∷ [])
unfolding card sum_below agree
crossed =
    judge crossed_left crossed_right _ _
    (then _ _ at_once (ran refl (own _ _) (three_of_nine crossed_left crossed_right (first_moment crossed_left crossed_right listed) (lit< tt) (lit< tt) refl)) (λ _. (refl, refl))) refl refl

pub labels_differ : ComesOut (resting 0) (resting 1) (sweeps 0 ∷ settles ∷ verdict_is [] ∷ [])
unfolding card sum_below agree
labels_differ = judge (resting 0) (resting 1) _ _ (then _ _ at_once (swept_once refl (own _ _)) (λ _. (refl, refl))) refl refl

pub labels_agree : ComesOut (resting 0) (resting 0) (sweeps 0 ∷ settles ∷ verdict_is (0 ∷ 1 ∷ []) ∷ [])
unfolding card sum_below agree
labels_agree = judge (resting 0) (resting 0) _ _ (then _ _ at_once (swept_once refl (own _ _)) (λ _. (refl, refl))) refl refl
