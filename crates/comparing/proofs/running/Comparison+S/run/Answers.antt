use Rattle.std.proofs.Common.{suc, ◌+◌, ◌-◌, refl, arith}
use Rattle.std.proofs.lemmas.Bool.Decides.{not_from_Decides}
use Rattle.theory.specs.Calls.{ran, run_refused, spent}
use Rattle.comparing.proofs.Calls.{continues_trans, run_on, run_quiet}
use Rattle.comparing.proofs.running.Comparison+S.run.Goals as goal

pub returns-then-not-brings-clause-does : goal.returns-then-not-brings-clause-does
returns-then-not-brings-clause-does g c narrow =
    run_refused refl (not_from_Decides c.brings.result c.brings.ensures c.if-not-brings.true)

pub loop-sweeps-preserved : goal.loop-sweeps-preserved
loop-sweeps-preserved g c =
    let x = c.sweep_once-struck.result in
    let w = c.sweep_once-struck.ensures in
    let i = c.loop-sweeps.invariant in
    record {
      within = omega arith;
      continues = continues_trans _ _ _ i.continues w.kept;
      whole = λ narrow left j k sweeps strikes m b d n r.
          let few = i.few narrow in
          let more = w.few narrow in
          i.whole narrow (suc left) (suc j) (x + k) sweeps strikes m (omega arith) (omega arith) (omega arith)
          (run_on _ _ _ _ _ x (w.strikes narrow) (w.moment narrow) c.if-struck-eq0.false left j k m r);
      few = λ narrow.
          let few = i.few narrow in
          let more = w.few narrow in
          omega arith;
    }

pub returns-then-struck-eq0-clause-does : goal.returns-then-struck-eq0-clause-does
returns-then-struck-eq0-clause-does g c narrow =
    let b = c.args.budget in
    let d = c.loop-sweeps.sweeps in
    let w = c.sweep_once-struck.ensures in
    let i = c.loop-sweeps.invariant in
    let few = i.few narrow in
    ran refl (c.brings.ensures.0 c.if-not-brings.false)
    (i.whole narrow (suc (b - d)) 1 0 d c.saturating_add-strikes.result _ (omega arith) refl (omega arith)
    (run_quiet _ _ _ _ _ _ (w.strikes narrow) (w.moment narrow) c.if-struck-eq0.true (b - d)))

pub returns-else-not-brings-clause-does : goal.returns-else-not-brings-clause-does
returns-else-not-brings-clause-does g c narrow =
    ran refl (c.brings.ensures.0 c.if-not-brings.false)
    (c.loop-sweeps.invariant.whole narrow 0 0 0 c.args.budget c.loop-sweeps.strikes _ (omega arith) (omega arith) (omega arith) spent)

pub returns-else-struck-eq0-clause-does : goal.returns-else-struck-eq0-clause-does
returns-else-struck-eq0-clause-does g c narrow =
    let x = c.sweep_once-struck.result in
    let w = c.sweep_once-struck.ensures in
    let i = c.loop-sweeps.invariant in
    let few = i.few narrow in
    let more = w.few narrow in
    ran refl (c.brings.ensures.0 c.if-not-brings.false)
    (i.whole narrow 1 1 (x + 0) c.args.budget c.saturating_add-strikes.result _ (omega arith) (omega arith) (omega arith)
    (run_on _ _ _ _ _ x (w.strikes narrow) (w.moment narrow) c.if-struck-eq0.false 0 0 0 _ spent))
