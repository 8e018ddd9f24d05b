use Rattle.std.proofs.Common.{ℕ, ◌<◌, min, List, length, set as slice_set, rules, arith, ap, sym, ◌∙◌}
use Rattle.theory.specs.Systems as theory
use Rattle.families.specs.declared.parts.Step.{Step}
use Rattle.families.specs.Models.{step_of, made, with_step}
use Rattle.families.specs.Drafts.{memory_of}
use Rattle.families.proofs.Lists.{step_here, holds_first, one_more, as_long}
use Rattle.families.proofs.Models.{pushed_means, steps_more}
use Rattle.families.proofs.Family.make.Goals as goal

pub push-requires-clause-room : goal.push-requires-clause-room
push-requires-clause-room g c =
    let i = c.loop-step.invariant in
    let xs = c.args.steps.now in
    let k = c.loop-step.step-index in
    let here = step_here c.args.states (length c.args.memory.now) xs k c.step-item.result c.loop-step-test.true c.step-item.is in
    let below : k < min 1024 (length c.args.memory.now) = search rules in
    let held = holds_first g.S.VariantSet c.loop-step.draft c.args.states xs k (omega (arith, c.loop-step-test.true)) i.means in
    let long = ap length i.memory ∙ as_long xs c.args.memory.now k (omega (arith, c.loop-step-test.true)) (omega (arith, below)) in
    omega (arith, below, held, long)

pub loop-step-preserved : goal.loop-step-preserved
loop-step-preserved g c =
    let i = c.loop-step.invariant in
    let K = g.S.VariantSet in
    let xs = c.args.steps.now in
    let lent = c.args.memory.now in
    let k = c.loop-step.step-index in
    let x = c.step-item.result in
    let d = c.loop-step.draft in
    let here = step_here c.args.states (length lent) xs k x c.loop-step-test.true c.step-item.is in
    let below : k < min 1024 (length lent) = search rules in
    let held = holds_first K d c.args.states xs k (omega (arith, c.loop-step-test.true)) i.means in
    let long = ap length i.memory ∙ as_long xs lent k (omega (arith, c.loop-step-test.true)) (omega (arith, below)) in
    let taken = pushed_means d.parts c.push.new.self x (omega (arith, below, held, long)) c.push.ensures K in
    record {
      means = taken
          ∙ ap (λ (F : theory.Family). with_step F (step_of K x)) i.means
          ∙ ap (λ (ss : List theory.Step). made c.args.states ss) (sym (steps_more K xs k x c.loop-step-test.true c.step-item.is));
      memory = c.push.ensures.steps ∙ ap (λ (n : ℕ). slice_set (memory_of d) n x) held ∙ ap (λ (ys : List (Step _)). slice_set ys k x) i.memory
          ∙ one_more xs lent k x c.loop-step-test.true (omega (arith, below)) c.step-item.is;
      granted = search rules;
    }
