use Rattle.std.proofs.Common.{◌<◌, get_or, None, sym, ap, ◌∙◌, subst, arith}
use Rattle.std.proofs.lemmas.List.{length-take, get_or-take}
use Rattle.families.specs.declared.parts.Step.{Step}
use Rattle.families.specs.Models.{held_steps}
use Rattle.families.proofs.Chains.{leaving_none}
use Rattle.families.proofs.Family.steps_from.Goals.{then-state-self, else-state-self}
use Rattle.families.proofs.Family.steps_from.Goals as goal

pub steps_sought-requires : goal.steps_sought-requires
steps_sought-requires g c =
    let f = c.args.self.now in
    let p = f.parts in
    let s = c.args.state in
    elim c.if-state-self.branch [
      | then-state-self w ↦
          w.first-is ∙ ap (λ k. get_or f.index.first k None) w.from.ensures
          ∙ f.first_leaving s (omega (arith, w.if-state-self.true, p.few.1))
      | else-state-self w ↦
          w.first-is
          ∙ leaving_none (held_steps p) s p.states
          (λ k d l m.
          let below : k < p.held = omega (arith, length-take p.held p.steps.now) in
          subst (λ (x : Step _). x.from < p.states) (sym (get_or-take p.held p.steps.now k d below)) (p.leaves k d l below))
          (omega (arith, w.if-state-self.false))
    ]
