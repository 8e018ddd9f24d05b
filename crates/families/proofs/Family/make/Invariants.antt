use Rattle.std.proofs.Common.{◌≡◌, min, map, length, take, drop, ◌++◌, []}
use Rattle.theory.specs.Answers.{granted}
use Rattle.families.specs.Models.{step_of, made}
use Rattle.families.specs.Drafts.{drafted, memory_of}
use Rattle.families.specs.Making.{steps_answer}
use Rattle.families.proofs.Family.make.Given as goal

abbrev pub invariant-loop-step : goal.invariant-loop-step
invariant-loop-step g l = record {
  -- the draft has the steps so far, which stand in the first places of the memory
  means : drafted g.S.VariantSet l.draft ≡ made l.states (map (step_of g.S.VariantSet) (take l.step-index l.steps));
  memory : memory_of l.draft ≡ take l.step-index l.steps ++ drop l.step-index l.fn.memory;
  -- the steps that are left are granted
  granted : steps_answer l.states (min 1024 (length l.fn.memory)) l.step-index (drop l.step-index l.steps) ≡ granted [];
}
