use Rattle.std.proofs.Common.{◌≡◌, ℕ, ◌<◌, List, [], ◌∷◌, ◌++◌, length, get_or, sym, ap, ◌∙◌, subst, arith, append_assoc, append-nil, length-append}
use Rattle.std.proofs.Math.Seq.{get_or-append_seam}
use Rattle.families.specs.declared.parts.Step.{Step}
use Rattle.families.specs.Places.{Indexes}
use Rattle.families.proofs.Chains.{index_none, index_more, sized_none, sized_more}
use Rattle.families.proofs.parts.Index.of.Goals as goal

-- the last of the steps that are left, among all
record Last {S : Type 0} (xs before : List (Step S)) (x : Step S) : Type 0 where
  below : length before < length xs
  read : x ≡ get_or xs (length before) x
  first : (filed : List (Step S)) × (xs ≡ before ++ filed)

last : {S : Type 0} (xs rest before : List (Step S)) (x : Step S) (filed : List (Step S)) → xs ≡ rest ++ filed → rest ≡ before ++ x ∷ [] → Last xs before x
last xs rest before x filed e split =
    let seam : xs ≡ before ++ x ∷ filed = e ∙ ap (λ (ys : List (Step _)). ys ++ filed) split ∙ append_assoc before (x ∷ []) filed in
    record {
      below = omega (arith, ap length seam, length-append before (x ∷ filed));
      read = sym (ap (λ (ys : List (Step _)). get_or ys (length before) x) seam ∙ get_or-append_seam before x filed x);
      first = (x ∷ filed, seam);
    }

pub loop-step-init : goal.loop-step-init
loop-step-init g c = record { first = ([], sym (append-nil c.args.steps.now)); index = index_none c.args.steps.now; sized = sized_none }

pub loop-step-preserved : goal.loop-step-preserved
loop-step-preserved g c =
    let i = c.loop-step.invariant in
    let xs = c.args.steps.now in
    let x = c.in-Some.step.now in
    let k = length c.in-Some.before.now in
    let old = c.loop-step.index in
    let l = last xs c.loop-step.rest.now c.in-Some.before.now x i.first.0 i.first.1 c.in-Some.ensures.cases.0 in
    record {
      first = l.first;
      index = index_more xs k old c.add.new.self x l.below l.read
          (subst (λ (y : Step _). y.from < 64) (sym l.read) (c.requires.leaves k x (omega arith) l.below))
          c.requires.few i.sized c.add.ensures (subst (λ (n : ℕ). Indexes xs n old) (sym c.in-Some.ensures.cases.1) i.index);
      sized = sized_more old c.add.new.self k x.from x.action c.add.ensures i.sized;
    }
