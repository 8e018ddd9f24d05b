-- The candidates of the second line.
use Rattle.std.proofs.Common.{◌≡◌, ℕ, ◌+◌, ◌<◌, true, false, ltb, List, [], ◌∷◌, sym, refl, subst, inl, inr, arith}
use Rattle.std.proofs.lemmas.Bool.{both_ways, or_cases, eqb-true}
use Rattle.theory.specs.Tables.{Table}
use Rattle.theory.specs.Answers.{granted}
use Rattle.theory.specs.Marks.{here, left, right, facing, at_step, Marked}
use Rattle.theory.specs.Judgements.{FirstUnfollowed, Clear}
use Rattle.theory.proofs.Clearing.{clear_starts, clear_next, clear_row, clear_all, side_fault}
use Rattle.worked.specs.Words.{set_of, step, Entry, holding, listed, MarksAs}
use Rattle.worked.specs.Lines.{second_left, second_right, paired, unpaired, overpaired}
use Rattle.worked.proofs.Testing.{all_below, below_out, bounded_by, bounds_out, soon_silent, is_followed, decided, all_are_followed, all_followed}

-- a candidate of the second line: two by three pairs, two variants
module _ (sets : List Entry) (bounded : bounded_by 2 3 2 sets ≡ true) where
  abbrev H : Table
  H = holding sets

  few : (s t v : ℕ) → H s t v ≡ true → v < 2
  few s t v e = (bounds_out 2 3 2 sets s t v bounded e).2

  inside : (s t v : ℕ) → H s t v ≡ true → (s < 2) × (t < 3)
  inside s t v e = let b = bounds_out 2 3 2 sets s t v bounded e in (b.0, b.1)

  -- a pair that passes, tested
  pair : (s t : ℕ) (ls : ltb s 2 ≡ true) (lt : ltb t 3 ≡ true) (slow : soon_silent 2 second_left s ≡ true) (soon : soon_silent 2 second_right t ≡ true) →
      all_are_followed 2 second_right t lt refl soon H s (few s t) second_left.steps ≡ true →
      all_are_followed 2 second_left s ls refl slow (facing right H) t (few s t) second_right.steps ≡ true →
      Clear second_left second_right listed H (at_step left s t 0) → Clear second_left second_right listed H (at_step left s (t + 1) 0)
  pair s t ls lt slow soon p q clear = clear_next second_left second_right listed H s t clear
      (all_followed 2 second_right t lt refl soon H s (few s t) second_left.steps p)
      (all_followed 2 second_left s ls refl slow (facing right H) t (few s t) second_right.steps q)

  row : (s : ℕ) → Clear second_left second_right listed H (at_step left s 3 0) → Clear second_left second_right listed H (at_step left (s + 1) 0 0)
  row = clear_row second_left second_right listed H 2 3 inside

  all : Clear second_left second_right listed H (at_step left 2 0 0) → Marked second_left second_right listed H (granted [])
  all = clear_all second_left second_right listed H 2 3 inside

  starts : (H 0 0 0 ≡ true) → (H 0 0 1 ≡ true) → Clear second_left second_right listed H (at_step left 0 0 0)
  starts zeroth first = clear_starts second_left second_right listed H has
    where
      has : (v : ℕ) → listed v ≡ true → H 0 0 v ≡ true
      has v e = elim (or_cases _ _ e) [
        | inl h ↦ subst (λ (i : ℕ). H 0 0 i ≡ true) (sym (eqb-true _ _ h)) zeroth
        | inr h ↦ elim (or_cases _ _ h) [
          | inl k ↦ subst (λ (i : ℕ). H 0 0 i ≡ true) (sym (eqb-true _ _ k)) first
          | inr k ↦ absurd (both_ways false refl k)
        ]
      ]

  -- the one left step is not followed from (0, t) in variant v
  unfollowed : (t v : ℕ) (lt : ltb t 3 ≡ true) (soon : soon_silent 2 second_right t ≡ true) → set_of (0 ∷ 1 ∷ []) v ≡ true → H 0 t v ≡ true →
      is_followed 2 second_right t lt refl soon H 0 (few 0 t) (step 0 1 1 (0 ∷ 1 ∷ [])) v ≡ false →
      all_below v (is_followed 2 second_right t lt refl soon H 0 (few 0 t) (step 0 1 1 (0 ∷ 1 ∷ []))) ≡ true →
      FirstUnfollowed second_right H 0 t second_left.steps 0 v
  unfollowed t v lt soon held has not-now earlier =
      record {
        step = _;
        place = here;
        judged = (
          (refl, held, has),
          λ f. both_ways _ not-now ((decided 2 second_right t lt refl soon H 0 (few 0 t) (step 0 1 1 (0 ∷ 1 ∷ [])) v (few 0 t v has)).1 f),
          λ u l due. (decided 2 second_right t lt refl soon H 0 (few 0 t) (step 0 1 1 (0 ∷ 1 ∷ [])) u (few 0 t u due.2)).0 (below_out v _ earlier u l),
        );
        before = λ j x l at. absurd (omega arith);
      }

pub paired_accepted : MarksAs second_left second_right paired []
paired_accepted =
    all paired refl
    (row paired refl 1
    (pair paired refl 1 2 refl refl refl refl refl refl
    (pair paired refl 1 1 refl refl refl refl refl refl
    (pair paired refl 1 0 refl refl refl refl refl refl
    (row paired refl 0
    (pair paired refl 0 2 refl refl refl refl refl refl
    (pair paired refl 0 1 refl refl refl refl refl refl
    (pair paired refl 0 0 refl refl refl refl refl refl (starts paired refl refl refl)))))))))

pub unpaired_faulty : MarksAs second_left second_right unpaired (2 ∷ 0 ∷ 0 ∷ 0 ∷ 1 ∷ [])
unpaired_faulty =
    side_fault second_left second_right listed (holding unpaired) left 0 0 (starts unpaired refl refl refl) 0 1 (unfollowed unpaired refl 0 1 refl refl refl refl refl refl)

pub overpaired_faulty : MarksAs second_left second_right overpaired (2 ∷ 0 ∷ 1 ∷ 0 ∷ 0 ∷ [])
overpaired_faulty =
    side_fault second_left second_right listed (holding overpaired) left 0 1 (pair overpaired refl 0 0 refl refl refl refl refl refl (starts overpaired refl refl refl)) 0 0
    (unfollowed overpaired refl 1 0 refl refl refl refl refl refl)
