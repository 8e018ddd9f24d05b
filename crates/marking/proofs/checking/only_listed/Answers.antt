use Rattle.std.proofs.Common.{◌≡◌, ℕ, ◌<◌, Bool, true, false, List, length, get_or, Decides, MatchBool, sym, refl, ap, ◌∙◌, arith, rules, tests}
use Rattle.std.specs.List.{HoldsAt, AllWithin}
use Rattle.std.proofs.lemmas.List.{get_or-map}
use Rattle.std.proofs.lemmas.Bool.{false≢true}
use Rattle.std.proofs.lemmas.Iterator.{cases_from_all, YieldsList-from_slice}
use Rattle.theory.specs.Sets.{Variants}
use Rattle.variants.specs.declared.VariantSet.{Ghosts as Kind}
use Rattle.tables.specs.Cells.{cell}
use Rattle.tables.proofs.Places.{cell_inside}
use Rattle.marking.specs.Marks.{OnlyListed}
use Rattle.marking.proofs.checking.only_listed.Goals as goal

module _ {S : Type 0} (K : Kind S) (list : S) (xs : List S) where
  abbrev Listed : S → Type 0
  Listed x = (v : ℕ) → K.holds x v ≡ true → K.holds list v ≡ true

  cell_at : (k : ℕ) → k < length xs → (v : ℕ) → cell K xs k v ≡ K.holds (get_or xs k list) v
  cell_at k l v = ap (λ (f : Variants). f v) (get_or-map K.holds xs k list (λ _. false) l)

  decides_listed : (r : Bool) → MatchBool r (AllWithin Listed xs 0 (length xs)) ((k : ℕ) × (k < length xs) × HoldsAt (λ x. Listed x → ⊥) xs k) → Decides r (OnlyListed K list xs)
  decides_listed true all = (λ _ k v h. let l = cell_inside K xs k v h in all k list (omega arith) l v (sym (cell_at k l v) ∙ h), λ _. refl)
  decides_listed false one = (λ e. absurd (false≢true e), λ only. absurd (one.2 list (λ v h. only one.0 v (cell_at one.0 one.1 v ∙ h))))

pub returns : goal.returns
returns g c =
    let K = g.S.VariantSet in
    let list = c.args.list in
    decides_listed K list c.args.cells.now _
    (cases_from_all _ _ _ (Listed K list c.args.cells.now) (λ x. Listed K list c.args.cells.now x → ⊥) c.all.ensures.ran (YieldsList-from_slice c.args.cells.now cc)
    (λ x q k. search (rules, tests)) (λ x q k. search (rules, tests)))
