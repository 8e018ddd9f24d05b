-- Ways by which a step is followed, as they are computed.
use Rattle.std.proofs.Common.{◌≡◌, ℕ, zero, suc, Bool, ◌&&◌, ◌||◌, List, [], ◌∷◌, ◌++◌, map, sym, refl, ap, ◌∙◌, subst, ap₂, arith, add-one}
use Rattle.std.specs.List.{list_any, range_with_len}
use Rattle.std.proofs.lemmas.List.{map_push}
use Rattle.std.proofs.lemmas.List.FromFn.{map-range_with_len_more}
use Rattle.std.proofs.lemmas.List.Folds.{list_any-append}
use Rattle.std.proofs.lemmas.Bool.{eq-eqb, ne_eqb}
use Rattle.theory.specs.Sets.{Variants}
use Rattle.theory.specs.Systems.{Step, Family}
use Rattle.theory.specs.Tables.{Table}
use Rattle.theory.specs.Sweeps.{answered}
use Rattle.theory.specs.Judgements.{by_way_of, some_below}
use Rattle.theory.proofs.Booleans.{or_false}
use Rattle.theory.proofs.Judgements.{some_more}
use Rattle.theory.proofs.Rules.{answered_row}
use Rattle.answering.specs.Partners.{each_row}

module _ (F : Family) (X : ℕ → Variants) (H : Table) (s : ℕ) (x : Step) (v r : ℕ) (still answers : Bool)
    (is_still : still ≡ (X r v && H s r v)) (is_answer : answers ≡ answered F.steps (each_row (H x.to)) r x v) where
  answer_seen : answers ≡ answered F.steps H r x v
  answer_seen = is_answer ∙ answered_row (each_row (H x.to)) H r x v (λ y. refl) F.steps

  -- a silent step may need nothing
  pub silent_way : x.action ≡ 0 → (stays : Bool) → stays ≡ H x.to r v → (still && (answers || stays)) ≡ by_way_of F.steps X H s x v r
  silent_way e stays is =
      ap₂ (λ (a b : Bool). a && (b || stays)) is_still answer_seen
      ∙ ap₂ (λ (a b : Bool). (X r v && H s r v) && (answered F.steps H r x v || (a && b))) (sym (eq-eqb x.action 0 e)) is

  -- any other step needs an answer
  pub other_way : (x.action ≡ 0 → ⊥) → (still && answers) ≡ by_way_of F.steps X H s x v r
  other_way ne =
      ap₂ (λ (a b : Bool). a && b) is_still (answer_seen ∙ sym (or_false (answered F.steps H r x v)))
      ∙ ap (λ (a : Bool). (X r v && H s r v) && (answered F.steps H r x v || (a && H x.to r v))) (sym (ne_eqb x.action 0 ne))

-- whether some of the numbers passes the test
abbrev pub some_of : (ℕ → Bool) → List ℕ → Bool
some_of f xs = list_any (λ b. b) (map f xs)

module _ (f : ℕ → Bool) where
  last_of : (bs : List Bool) (b : Bool) → list_any (λ b. b) (bs ++ b ∷ []) ≡ (list_any (λ b. b) bs || b)
  last_of bs b = list_any-append (λ b. b) bs (b ∷ []) ∙ ap (λ (c : Bool). list_any (λ b. b) bs || c) (or_false b)

  -- one number more
  pub one_more : (xs : List ℕ) (x : ℕ) (a b : Bool) → a ≡ some_of f xs → b ≡ (a || f x) → b ≡ some_of f (xs ++ x ∷ [])
  one_more xs x a b so_far is =
      is ∙ ap (λ (c : Bool). c || f x) so_far ∙ sym (ap (list_any (λ b. b)) (map_push f xs x) ∙ last_of (map f xs) (f x))

  -- the numbers below n
  pub all_below : (n : ℕ) → some_of f (range_with_len 0 n) ≡ some_below n f
  all_below zero = refl
  all_below (suc n) =
      subst (λ (k : ℕ). some_of f (range_with_len 0 k) ≡ some_below k f) (add-one n)
      (ap (list_any (λ b. b)) (map-range_with_len_more f 0 n n (omega arith)) ∙ last_of (map f (range_with_len 0 n)) (f n) ∙ some_more n f _ _ (all_below n) refl)
