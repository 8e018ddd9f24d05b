-- A candidate that holds listed variants only.
use Rattle.std.proofs.Common.{◌≡◌, ℕ, ◌+◌, ◌*◌, ◌<◌, true, List, take, ◌∙◌}
use Rattle.std.proofs.lemmas.Bool.{and_parts}
use Rattle.theory.specs.Marks.{Candidate, MarkingIsExact}
use Rattle.theory.proofs.Marking.{marking_is_exact}
use Rattle.variants.specs.declared.VariantSet.{Ghosts as Kind}
use Rattle.families.specs.declared.Family.{Family}
use Rattle.families.specs.Drafts.{model}
use Rattle.tables.proofs.Places.{cell_take, grid_inside, place_below}
use Rattle.marking.specs.Judgements.{pairs_of}
use Rattle.marking.specs.Marks.{OnlyListed, pairs}

module _ {S : Type 0} (K : Kind S) (L R : Family S) (list : S) (cells : List S) (only : OnlyListed K list (take (pairs K L R) cells)) where
  inside : (s t v : ℕ) → pairs_of K L R cells s t v ≡ true → (s < (model K L).states) × (t < (model K R).states)
  inside = grid_inside K (model K L).states (model K R).states cells

  listed : (s t v : ℕ) → pairs_of K L R cells s t v ≡ true → K.holds list v ≡ true
  listed s t v h =
      let i = inside s t v h in
      let k = s * (model K R).states + t in
      let below : k < pairs K L R = place_below s t (model K L).states (model K R).states i.0 i.1 in
      only k v (cell_take K cells (pairs K L R) k v below ∙ (and_parts _ _ h).1)

  candidate : Candidate (model K L) (model K R) (K.holds list) (pairs_of K L R cells)
  candidate = record { left_in = λ s t v h. (inside s t v h).0; right_in = λ s t v h. (inside s t v h).1; only_listed = listed }

  pub exact : MarkingIsExact (model K L) (model K R) (K.holds list) (pairs_of K L R cells)
  exact = marking_is_exact (model K L) (model K R) (K.holds list) (pairs_of K L R cells) candidate
