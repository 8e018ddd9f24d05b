-- The start rule.
use Rattle.std.proofs.Common.{◌≡◌, ℕ, ◌<◌, Bool, true, not, ◌&&◌, [], ◌∷◌, Some, None, ap, ◌∙◌, ap₂}
use Rattle.theory.specs.Answers.{granted}
use Rattle.theory.specs.Marks.{Marked, left, at_starts, at_step, fault}
use Rattle.theory.specs.Judgements.{Clear}
use Rattle.theory.proofs.Clearing.{clear_starts, starts_fault, lacks_none, lacks_some}
use Rattle.variants.specs.declared.VariantSet.{Ghosts as Kind}
use Rattle.variants.specs.Sets.{Least}
use Rattle.variants.specs.Kinds.{Countable}
use Rattle.marking.specs.declared.Marking.{Marking}
use Rattle.marking.specs.Judgements.{left_of, right_of, candidate_of}

module _ {S : Type 0} (K : Kind S) (law : (x : S) (v : ℕ) → K.holds x v ≡ true → v < K.variants) (m : Marking S) (list : S)
    (s t : ℕ) (es : s ≡ (left_of K m).start) (et : t ≡ (right_of K m).start)
    (starts lacking : S) (is_starts : (v : ℕ) → K.holds starts v ≡ candidate_of K m s t v)
    (is_lacking : (v : ℕ) → K.holds lacking v ≡ (K.holds list v && not (K.holds starts v))) (few : Countable K) where
  is : (v : ℕ) → K.holds lacking v ≡ (K.holds list v && not (candidate_of K m (left_of K m).start (right_of K m).start v))
  is v = is_lacking v ∙ ap (λ (b : Bool). K.holds list v && not b) (is_starts v ∙ ap₂ (λ (a b : ℕ). candidate_of K m a b v) es et)

  pub starts_clear : Least (K.holds lacking) None → Clear (left_of K m) (right_of K m) (K.holds list) (candidate_of K m) (at_step left 0 0 0)
  starts_clear least =
      clear_starts (left_of K m) (right_of K m) (K.holds list) (candidate_of K m)
      (lacks_none K.variants few (K.holds list) (candidate_of K m (left_of K m).start (right_of K m).start) (K.holds lacking) (law list) is least)

  pub starts_faulty : (v : ℕ) → Least (K.holds lacking) (Some v) →
      (granted (1 ∷ s ∷ t ∷ 0 ∷ v ∷ []) ≡ fault (left_of K m) (right_of K m) (K.holds list) (candidate_of K m) at_starts v)
      × Marked (left_of K m) (right_of K m) (K.holds list) (candidate_of K m) (fault (left_of K m) (right_of K m) (K.holds list) (candidate_of K m) at_starts v)
  starts_faulty v least =
      let f = lacks_some K.variants few (K.holds list) (candidate_of K m (left_of K m).start (right_of K m).start) (K.holds lacking) (law list) is v least.1 least.2 in
      (ap₂ (λ (a b : ℕ). granted (1 ∷ a ∷ b ∷ 0 ∷ v ∷ [])) es et, starts_fault (left_of K m) (right_of K m) (K.holds list) (candidate_of K m) v f.0 f.1 f.2)
