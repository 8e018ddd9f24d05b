-- The steps of a family that hold a variant are the moves of its machine.
use Rattle.std.proofs.Common.{◌≡◌, ℕ, ◌<◌, Bool, true, false, cond, ◌&&◌, ltb, List, [], ◌∷◌, map, refl, ap, ◌∙◌}
use Rattle.std.specs.List.{filter}
use Rattle.std.proofs.lemmas.Bool.{lt-ltb}
use Rattle.theory.specs.Systems as theory
use Rattle.variants.specs.declared.VariantSet.{Ghosts as Kind}
use Rattle.families.specs.declared.parts.Step.{Step}
use Rattle.families.specs.Models.{step_of}
use Rattle.machines.specs.Moves.{move_of, bare_move}

module _ {S : Type 0} (K : Kind S) (v : ℕ) where
  -- whether `has` says that the step's set holds the variant
  abbrev pub has : Step S → Bool
  has x = ltb v 1024 && K.holds x.set v

  pub moves_are : v < 1024 → (xs : List (Step S)) → map move_of (map bare_move (filter has xs)) ≡ theory.moves v (map (step_of K) xs)
  moves_are low [] = refl
  moves_are low (x ∷ xs) =
      one (has x)
      ∙ ap (λ (t : Bool). cond (t && K.holds x.set v) (theory.move (step_of K x) ∷ map move_of (map bare_move (filter has xs))) (map move_of (map bare_move (filter has xs)))) (lt-ltb v 1024 low)
      ∙ ap (λ (ms : List theory.Move). cond (K.holds x.set v) (theory.move (step_of K x) ∷ ms) ms) (moves_are low xs)
    where
      one : (b : Bool) → map move_of (map bare_move (cond b (x ∷ filter has xs) (filter has xs)))
          ≡ cond b (theory.move (step_of K x) ∷ map move_of (map bare_move (filter has xs))) (map move_of (map bare_move (filter has xs)))
      one true = refl
      one false = refl
