-- The calls on a comparison, as the theory has them.
use Rattle.std.proofs.Common.{◌≡◌, ℕ, suc, ◌+◌, ◌<◌, false, eqb, [], Some, None, Option, sym, refl, ◌∙◌, arith}
use Rattle.std.specs.Option.{option_eq}
use Rattle.std.proofs.lemmas.Bool.{cond-false}
use Rattle.std.proofs.lemmas.Bool.Decides.{nat_tests}
use Rattle.theory.specs.Systems.{Family}
use Rattle.theory.specs.Tables.{Table}
use Rattle.theory.specs.Sweeps.{strikes}
use Rattle.theory.specs.Answers.{granted, refused}
use Rattle.theory.specs.Calls.{Frame, Moment, after_sweep, settle, Ran, quiet, on, Does, settle_refused}
use Rattle.tables.proofs.Tables.{resembles_trans}
use Rattle.comparing.specs.declared.Comparison.{Comparison}
use Rattle.comparing.specs.declared.Sweeping.{Sweeping}
use Rattle.comparing.specs.Moments.{last_of, Continues}
use Rattle.comparing.specs.Outcomes.{settle_answer}

pub continues_trans : {S : Type 0} (a b c : Comparison S Sweeping) → Continues a b → Continues b c → Continues a c
continues_trans a b c p q =
    record {
      table = resembles_trans a.table b.table c.table p.table q.table;
      left_start = q.left_start ∙ p.left_start;
      right_start = q.right_start ∙ p.right_start;
    }

-- a run that begins with a sweep of x strikes, from mid to new
module _ (V : ℕ) (L R : Family) (mid new : Moment) (x : ℕ) (p : x ≡ strikes L R V mid.table) (q : new ≡ after_sweep V L R mid) where
  -- and goes on
  pub run_on : (x ≡ 0 → ⊥) → (b j k : ℕ) (m : Moment) → Ran V L R b new j k m → Ran V L R (suc b) mid (suc j) (x + k) m
  run_on ne b j k m r =
      let some : 0 < strikes L R V mid.table = omega (arith, p) in
      rw p (on some (rw q at r))

  -- and is at rest
  pub run_quiet : x ≡ 0 → (b : ℕ) → Ran V L R (suc b) mid 1 0 new
  run_quiet e b = rw q (quiet (sym p ∙ e))

-- a settle that is refused: there was no sweep, or the last one struck something
pub refused_settle : (f : Frame) (T : Table) (l : Option ℕ) → option_eq eqb l (Some 0) ≡ false →
    (refused 9 ≡ settle_answer l) × Does f (record { table = T; last = last_of l; settled = false }) settle (refused 9) (record { table = T; last = last_of l; settled = false })
refused_settle f T None e = (refl, settle_refused refl (λ h. cc))
refused_settle f T (Some k) e = (
  sym (cond-false (eqb k 0) (granted []) (refused 9) e),
  settle_refused refl (λ h. let z : k ≡ 0 = cc in grind (arith, nat_tests)),
)
