use Rattle.std.proofs.Common.{refl}
use Rattle.std.proofs.lemmas.Bool.Decides.{not_from_Decides}
use Rattle.theory.specs.Calls.{swept_once, swept_refused}
use Rattle.comparing.proofs.running.Comparison+S.sweep.Goals as goal

pub returns-then-not-brings-clause-does : goal.returns-then-not-brings-clause-does
returns-then-not-brings-clause-does g c narrow =
    swept_refused refl (not_from_Decides c.brings.result c.brings.ensures c.if-not-brings.true)

pub returns-clause-does : goal.returns-clause-does
returns-clause-does g c narrow =
    let e = c.sweep_once.ensures in
    rw (e.strikes narrow, e.moment narrow) (swept_once refl (c.brings.ensures.0 c.if-not-brings.false))
