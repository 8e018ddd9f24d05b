use Rattle.std.proofs.Common.{◌≡◌, ℕ, ◌+◌, ◌-◌, ◌^◌, ◌<◌, min, true, ◌&&◌, eqb, ltb, sym, ap, ◌∙◌, subst, ap₂, rules}
use Rattle.std.proofs.lemmas.Bool.{both_ways}
use Rattle.theory.specs.Systems as theory
use Rattle.theory.specs.Reach.{round, reach_begun}
use Rattle.theory.specs.Reach as reach
use Rattle.theory.proofs.Reach.{Inside, Going, Counted, missing, round_falls, going_none, counted_none, going_more, counted_more, going_last, counted_last}
use Rattle.variants.specs.declared.VariantSet.{Ghosts as Kind}
use Rattle.variants.specs.Kinds.{Countable}
use Rattle.families.specs.declared.Family.{Family}
use Rattle.families.specs.Drafts.{model}
use Rattle.tables.specs.declared.Table.{Table}
use Rattle.tables.specs.Cells.{bounded}
use Rattle.tables.specs.Tables.{standing}
use Rattle.reaching.specs.declared.Reaching.{Reaching}
use Rattle.reaching.specs.Working.{Kept, WorkedOut, worked, family_of}
use Rattle.reaching.proofs.Joins.{kept_refl, kept_trans, worked_inside, counted_exact}
use Rattle.reaching.proofs.working.rounds.Goals as goal

module _ {S : Type 0} (K : Kind S) (f : Family S) (mid : Reaching S) (same : mid.family.now ≡ f) where
  -- a round is one of the family's
  rounded : (new : Reaching S) → worked K new ≡ round mid.table.now.rows (family_of K mid).steps (worked K mid) → worked K new ≡ round (model K f).states (model K f).steps (worked K mid)
  rounded new e = e ∙ ap₂ (λ (n : ℕ) (h : Family S). round n (model K h).steps (worked K mid)) (mid.rows ∙ ap (λ (h : Family S). h.parts.states) same) same

  -- and leaves nothing outside its states and the kind
  inside : (new : Reaching S) → ((x : S) (v : ℕ) → K.holds x v ≡ true → v < K.variants) → Kept mid new → Inside K.variants (model K f).states (worked K new)
  inside new law kept = subst (λ (h : Family S). Inside K.variants h.parts.states (worked K new)) (kept.family ∙ same) (worked_inside K law new)

  -- the count of the rounds is not capped
  one_more : (m k : ℕ) → Countable K → Counted K.variants (model K f) m (worked K mid) → k ≡ min (m + 1) (2 ^ 32 - 1) → k ≡ m + 1
  one_more m k narrow counted =
      counted_exact (model K f).states K.variants m (missing K.variants (model K f).states (worked K mid)) k f.parts.few.1 narrow counted.few

-- a table that is the same holds the same reach
out_at : {S : Type 0} (K : Kind S) (F : theory.Family) (r : ℕ) (T U : Table S) → T ≡ U → WorkedOut K F r U → WorkedOut K F r T
out_at K F r T U e = subst (WorkedOut K F r) (sym e)

pub loop-reaching-init : goal.loop-reaching-init
loop-reaching-init g c =
    let K = g.S.VariantSet in
    let V = K.variants in
    let F = model K c.args.family.now in
    let begun : standing K c.fill.new.table ≡ reach_begun V F.states =
    c.fill.ensures.filled c.requires.fits ∙ ap₂ (λ (a b : ℕ). bounded a b (λ s t v. eqb s t && ltb v V)) c.requires.rows c.requires.cols in
    record {
      kept = kept_refl _;
      going = subst (Going V F) (sym begun) (going_none V F);
      counted = λ _. subst (Counted V F 0) (sym begun) (counted_none V F);
    }

pub loop-reaching-smaller : goal.loop-reaching-smaller
loop-reaching-smaller g c =
    let K = g.S.VariantSet in
    let f = c.args.family.now in
    let mid = c.loop-reaching.reaching in
    let new = c.round.new.self in
    let same = c.loop-reaching.invariant.kept.family in
    let e = c.round.ensures in
    round_falls K.variants (model K f) (worked K mid) (worked K new) (rounded K f mid same new e.rounded) (inside K f mid same new g.met.S.VariantSet.within e.kept)
    (λ stays. both_ways _ c.if-round.false (e.still.1 stays))

pub loop-reaching-preserved : goal.loop-reaching-preserved
loop-reaching-preserved g c =
    let K = g.S.VariantSet in
    let V = K.variants in
    let f = c.args.family.now in
    let F = model K f in
    let mid = c.loop-reaching.reaching in
    let new = c.round.new.self in
    let i = c.loop-reaching.invariant in
    let e = c.round.ensures in
    let after = rounded K f mid i.kept.family new e.rounded in
    let grown : worked K new ≡ worked K mid → ⊥ = λ stays. both_ways _ c.if-round.false (e.still.1 stays) in
    record {
      kept = kept_trans _ mid new i.kept e.kept;
      going = going_more V F (worked K mid) (worked K new) after i.going;
      counted = λ narrow.
          subst (λ (r : ℕ). Counted V F r (worked K new)) (sym (one_more K f mid i.kept.family c.loop-reaching.made c.saturating_add-made.result narrow (i.counted narrow) c.saturating_add-made.ensures))
          (counted_more V F (worked K mid) (worked K new) after c.loop-reaching.made (inside K f mid i.kept.family new g.met.S.VariantSet.within e.kept) grown (i.counted narrow));
    }

pub returns-then-round-clause-reach : goal.returns-then-round-clause-reach
returns-then-round-clause-reach g c =
    let K = g.S.VariantSet in
    let V = K.variants in
    let f = c.args.family.now in
    let F = model K f in
    let mid = c.loop-reaching.reaching in
    let new = c.round.new.self in
    let i = c.loop-reaching.invariant in
    let e = c.round.ensures in
    let after = rounded K f mid i.kept.family new e.rounded in
    let stays = e.still.0 c.if-round.true in
    let name = sym (e.kept.memory ∙ i.kept.memory) in
    let made = c.saturating_add-made.result in
    out_at K F made _ new.table.now (search rules) (record {
      exact = going_last V F (worked K mid) (worked K new) after stays i.going;
      rounds = λ narrow.
          subst (λ (r : ℕ). reach.Rounds F.states F.steps (reach_begun V F.states) r (worked K new)) (sym (one_more K f mid i.kept.family c.loop-reaching.made made narrow (i.counted narrow) c.saturating_add-made.ensures))
          (counted_last V F (worked K mid) (worked K new) after c.loop-reaching.made stays (i.counted narrow));
    })
