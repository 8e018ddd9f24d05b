use Rattle.std.proofs.Common.{◌≡◌, ℕ, refl, ap, ◌∙◌, arith, rules}
use Rattle.std.proofs.iter.Yields.{nat_range_steps}
use Rattle.std.proofs.lemmas.Fn.{fold_over}
use Rattle.std.proofs.lemmas.Iterator.{YieldsList-from_range}
use Rattle.theory.specs.Judgements.{some_below}
use Rattle.following.specs.Views.{ways}
use Rattle.following.proofs.Ways.{some_of, one_more, all_below}
use Rattle.following.proofs.Position.followed.Goals as goal

pub returns : goal.returns
returns g c v =
    let K = g.S.VariantSet in
    let tested = ways K c.args.self.now c.args.step in
    let states = c.states.result in
    fold_over nat_range_steps (λ r. r) _ (λ rs set. (v : ℕ) → K.holds set v ≡ some_of (tested v) rs) _
    (λ rs set r more f' so_far k. (λ v. one_more (tested v) rs r _ _ (so_far v) (search rules), search rules))
    (record { start = 0; end = states }) _ _ _ (YieldsList-from_range 0 states states refl (omega arith)).runs c.none.ensures c.fold.ensures.ran v
    ∙ all_below (tested v) states
    ∙ ap (λ n. some_below n (tested v)) c.states.ensures.value
