use Rattle.std.proofs.Common.{refl}
use Rattle.theory.specs.Calls.{settled_now}
use Rattle.comparing.proofs.settling.Comparison+S.settle.Goals as goal

pub returns-clause-settles : goal.returns-clause-settles
returns-clause-settles g c = record { same_frame = refl; does = rw c.requires (settled_now refl refl) }
