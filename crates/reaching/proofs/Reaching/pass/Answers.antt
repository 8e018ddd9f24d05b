use Rattle.std.proofs.Common.{◌≡◌, ℕ, sym, ap, ◌∙◌, subst, add-one, arith}
use Rattle.std.proofs.lemmas.Bool.{eq-eqb, cond-true}
use Rattle.theory.specs.Reach.{joined, passed}
use Rattle.theory.proofs.Reach.{Less, joined_more, passed_more, still_both}
use Rattle.families.specs.Models.{step_of}
use Rattle.reaching.specs.Working.{worked}
use Rattle.reaching.proofs.Joins.{kept_trans}
use Rattle.reaching.proofs.Reaching.pass.Goals as goal

pub loop-i-preserved : goal.loop-i-preserved
loop-i-preserved g c =
    let K = g.S.VariantSet in
    let i = c.loop-i.i in
    let x = step_of K c.args.step in
    let old = c.args.self.now in
    let mid = c.loop-i.self in
    let new = c.join-still.new.self in
    let T = worked K old in
    let U = worked K mid in
    let W = worked K new in
    let inv = c.loop-i.invariant in
    let e = c.join-still.ensures in
    let before : Less T U = subst (Less T) (sym inv.made) (passed_more x i T) in
    let then : Less U W = subst (Less U) (sym e.joined) (joined_more x i U) in
    record {
      kept = kept_trans old mid new inv.kept e.kept;
      made = subst (λ (k : ℕ). W ≡ passed x k T) (sym (add-one i)) (e.joined ∙ ap (joined x i) inv.made);
      still = still_both c.loop-i.still c.join-still.result before then inv.still e.still;
    }

pub returns-clause-stepped : goal.returns-clause-stepped
returns-clause-stepped g c =
    let x = step_of g.S.VariantSet c.args.step in
    let n = c.args.self.now.table.now.rows in
    let T = worked g.S.VariantSet c.args.self.now in
    let i = c.loop-i.invariant in
    let all : c.loop-i.i ≡ n = omega (arith, i.kept.table.rows) in
    i.made ∙ ap (λ (k : ℕ). passed x k T) all ∙ sym (cond-true _ (passed x n T) T (eq-eqb _ _ c.if-step-ne0.false))
