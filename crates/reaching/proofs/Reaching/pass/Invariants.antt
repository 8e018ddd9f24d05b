use Rattle.std.proofs.Common.{◌≡◌, Decides}
use Rattle.theory.specs.Reach.{passed}
use Rattle.families.specs.Models.{step_of}
use Rattle.reaching.specs.Working.{Kept, worked}
use Rattle.reaching.proofs.Reaching.pass.Given as goal

abbrev pub invariant-loop-i : goal.invariant-loop-i
invariant-loop-i g l =
    let K = g.S.VariantSet in
    let old = l.fn.self in
    record {
      kept : Kept old l.self;
      made : worked K l.self ≡ passed (step_of K l.step) l.i (worked K old);
      still : Decides l.still (worked K l.self ≡ worked K old);
    }
