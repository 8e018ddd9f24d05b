use Rattle.std.proofs.Common.{◌≡◌, ℕ, map, take, Decides}
use Rattle.theory.specs.Reach.{round}
use Rattle.families.specs.Models.{step_of, held_steps}
use Rattle.families.specs.declared.seeking.Sought.TheVariants.{Silent}
use Rattle.families.proofs.Walks.{Walked}
use Rattle.reaching.specs.Working.{Kept, worked}
use Rattle.reaching.proofs.Reaching.round.Given as goal

-- the table is what the steps before some place make of it
abbrev pub invariant-loop-step : goal.invariant-loop-step
invariant-loop-step g l =
    let K = g.S.VariantSet in
    let old = l.fn.self in
    let xs = held_steps old.family.now.parts in
    record {
      kept : Kept old l.self;
      made : Walked Silent xs (λ (k : ℕ). worked K l.self ≡ round old.table.now.rows (map (step_of K) (take k xs)) (worked K old)) l.step-iterator;
      still : Decides l.still (worked K l.self ≡ worked K old);
    }
