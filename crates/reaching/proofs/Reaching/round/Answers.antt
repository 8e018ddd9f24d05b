use Rattle.std.proofs.Common.{◌≡◌, ℕ, ◌+◌, ◌<◌, false, eqb, List, [], ◌∷◌, map, length, get_or, take, sym, refl, ap, ◌∙◌, subst, le_refl, arith, take_all}
use Rattle.std.proofs.lemmas.Bool.{cond-false}
use Rattle.theory.specs.Systems as theory
use Rattle.theory.specs.Tables.{Table}
use Rattle.theory.specs.Reach.{stepped, round}
use Rattle.theory.proofs.Reach.{Less, stepped_more, round_more, round_push, still_both}
use Rattle.variants.specs.declared.VariantSet.{Ghosts as Kind}
use Rattle.families.specs.declared.parts.Step.{Step}
use Rattle.families.specs.declared.seeking.Sought.TheVariants.{Silent}
use Rattle.families.specs.Models.{step_of, held_steps}
use Rattle.families.specs.Seeking.{is_sought}
use Rattle.families.proofs.Models.{steps_more, step_between}
use Rattle.families.proofs.Walks.{Walked, Here, walk_more, walk_here, walk_all}
use Rattle.reaching.specs.Working.{worked}
use Rattle.reaching.proofs.Joins.{kept_trans}
use Rattle.reaching.proofs.Reaching.round.Goals as goal

module _ {S : Type 0} (K : Kind S) (xs : List (Step S)) (n : ℕ) (T : Table) where
  -- what the steps before a place make of the table
  abbrev upto : ℕ → Table
  upto k = round n (map (step_of K) (take k xs)) T

  -- one step more
  upto_next : (i : ℕ) (x : Step S) → i < length xs → x ≡ get_or xs i x → upto (i + 1) ≡ stepped n (step_of K x) (upto i)
  upto_next i x l read = ap (λ (ys : List theory.Step). round n ys T) (steps_more K xs i x l read) ∙ round_push n (map (step_of K) (take i xs)) (step_of K x) T

  upto_all : upto (length xs) ≡ round n (map (step_of K) xs) T
  upto_all = ap (λ (ys : List (Step S)). round n (map (step_of K) ys) T) (take_all (length xs) xs (le_refl (length xs)))

  module _ (U : Table) where
    abbrev Made : ℕ → Type 0
    Made k = U ≡ upto k

    -- a step that is not silent is passed over
    past : (j : ℕ) (x : Step S) → j < length xs → x ≡ get_or xs j x → is_sought Silent x ≡ false → Made j → Made (j + 1)
    past j x l read other h = h ∙ sym (upto_next j x l read ∙ cond-false (eqb x.action 0) _ _ other)

    made_here : (p : ℕ) (x : Step S) (left left' : List (ℕ × Step S)) → Walked Silent xs Made left → left ≡ (p, x) ∷ left' → Here Silent xs Made p x left'
    made_here = walk_here Silent xs Made past

    made_all : (left : List (ℕ × Step S)) → Walked Silent xs Made left → left ≡ [] → U ≡ round n (map (step_of K) xs) T
    made_all left walked e = walk_all Silent xs Made past left walked e ∙ upto_all

pub pass-still-requires : goal.pass-still-requires
pass-still-requires g c =
    let K = g.S.VariantSet in
    let old = c.args.self.now in
    let f = old.family.now in
    let xs = held_steps f.parts in
    let h = made_here K xs old.table.now.rows (worked K old) (worked K c.loop-step.self) c.in-Some.field-0-0 c.in-Some.step c.loop-step.step-iterator c.next.new.self c.loop-step.invariant.made c.in-Some.ensures.steps in
    let b = step_between f xs refl c.in-Some.field-0-0 c.in-Some.step h.below h.read in
    record { target = omega (arith, c.loop-step.invariant.kept.table.cols, old.cols, b.1) }

pub loop-step-preserved : goal.loop-step-preserved
loop-step-preserved g c =
    let K = g.S.VariantSet in
    let old = c.args.self.now in
    let mid = c.loop-step.self in
    let new = c.pass-still.new.self in
    let n = old.table.now.rows in
    let xs = held_steps old.family.now.parts in
    let p = c.in-Some.field-0-0 in
    let x = c.in-Some.step in
    let T = worked K old in
    let U = worked K mid in
    let W = worked K new in
    let inv = c.loop-step.invariant in
    let e = c.pass-still.ensures in
    let h = made_here K xs n T U p x c.loop-step.step-iterator c.next.new.self inv.made c.in-Some.ensures.steps in
    let after : W ≡ stepped n (step_of K x) U = e.stepped ∙ ap (λ (m : ℕ). stepped m (step_of K x) U) inv.kept.table.rows in
    let before : Less T U = subst (Less T) (sym h.there) (round_more n (map (step_of K) (take p xs)) T) in
    let then : Less U W = subst (Less U) (sym after) (stepped_more n (step_of K x) U) in
    record {
      kept = kept_trans old mid new inv.kept e.kept;
      made = walk_more Silent xs (λ (k : ℕ). U ≡ upto K xs n T k) (λ (k : ℕ). W ≡ upto K xs n T k) p x c.next.new.self h
          (after ∙ ap (stepped n (step_of K x)) h.there ∙ sym (upto_next K xs n T p x h.below h.read));
      still = still_both c.loop-step.still c.pass-still.result before then inv.still e.still;
    }

pub returns-clause-rounded : goal.returns-clause-rounded
returns-clause-rounded g c =
    let K = g.S.VariantSet in
    let old = c.args.self.now in
    made_all K (held_steps old.family.now.parts) old.table.now.rows (worked K old) (worked K c.loop-step.self) c.loop-step.step-iterator c.loop-step.invariant.made c.in-None.ensures.steps.0
