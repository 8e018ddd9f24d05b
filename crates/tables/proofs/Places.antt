-- What a place holds after a read, a cut or a write.
use Rattle.std.proofs.Common.{◌≡◌, ℕ, zero, suc, ◌+◌, ◌-◌, ◌*◌, ◌<◌, ◌≤◌, min, Bool, true, false, ◌&&◌, eqb, ltb, ◌≢◌, List, [], ◌∷◌, map, length, get_or, take, drop, set, sym, refl, ap, ◌∙◌, ap₂, inl, inr, arith}
use mathlib.Core.Path.{fun_ext}
use Rattle.std.proofs.lemmas.Nat.{mul-add-lt}
use Rattle.std.proofs.lemmas.List.{map-set, take-map, drop-map, length-map, get_or-set_same, get_or-set_other, get_or-take, get_or-drop, get_or_past, length-take}
use Rattle.std.proofs.lemmas.Bool.{and_from, and_parts, and_left, and_right, lt-ltb, le-ltb, ltb-true, eqb-true, eq-eqb, cases_Bool, cases_lt, cond-true, cond-false, both_ways}
use Rattle.theory.specs.Sets.{Variants}
use Rattle.theory.proofs.Counting.{digits_same}
use Rattle.variants.specs.declared.VariantSet.{Ghosts as Kind}
use Rattle.tables.specs.Cells.{cell, grid}
use Rattle.tables.specs.Tables.{written}

module _ {S : Type 0} (K : Kind S) where
  -- past the end nothing is held
  pub cell_past : (xs : List S) (k : ℕ) → length xs ≤ k → (v : ℕ) → cell K xs k v ≡ false
  cell_past xs k l v = ap (λ (f : Variants). f v) (get_or_past (map K.holds xs) k (λ _. false) (simp length-map l))

  -- so what is held stands before the end
  pub cell_inside : (xs : List S) (k v : ℕ) → cell K xs k v ≡ true → k < length xs
  cell_inside xs k v h = elim (cases_lt k (length xs)) [ inl l ↦ l | inr l ↦ absurd (both_ways (cell K xs k v) (cell_past xs k l v) h) ]

  cell_set_same : (xs : List S) (k : ℕ) (x : S) → k < length xs → (v : ℕ) → cell K (set xs k x) k v ≡ K.holds x v
  cell_set_same xs k x l v =
      ap (λ (ys : List Variants). get_or ys k (λ _. false) v) (map-set K.holds xs k x)
      ∙ ap (λ (f : Variants). f v) (get_or-set_same (map K.holds xs) k (K.holds x) (λ _. false) (simp length-map l))

  cell_set_other : (xs : List S) (k j : ℕ) (x : S) → j ≢ k → (v : ℕ) → cell K (set xs k x) j v ≡ cell K xs j v
  cell_set_other xs k j x n v =
      ap (λ (ys : List Variants). get_or ys j (λ _. false) v) (map-set K.holds xs k x)
      ∙ ap (λ (f : Variants). f v) (get_or-set_other (map K.holds xs) k j (K.holds x) (λ _. false) n)

  pub cell_drop : (xs : List S) (n k v : ℕ) → cell K (drop n xs) k v ≡ cell K xs (n + k) v
  cell_drop xs n k v =
      ap (λ (ys : List Variants). get_or ys k (λ _. false) v) (sym (drop-map K.holds n xs))
      ∙ ap (λ (f : Variants). f v) (get_or-drop n (map K.holds xs) k (λ _. false))

  pub cell_take : (xs : List S) (n k v : ℕ) → k < n → cell K (take n xs) k v ≡ cell K xs k v
  cell_take xs n k v l =
      ap (λ (ys : List Variants). get_or ys k (λ _. false) v) (sym (take-map K.holds n xs))
      ∙ ap (λ (f : Variants). f v) (get_or-take n (map K.holds xs) k (λ _. false) l)

pub place_below : (s t rows cols : ℕ) → s < rows → t < cols → s * cols + t < rows * cols
place_below s t rows cols ls lt = omega (arith, mul-add-lt s cols t rows ls lt)

pub inside : (rows cols s t : ℕ) → s < rows → t < cols → (ltb s rows && ltb t cols) ≡ true
inside rows cols s t ls lt = and_from _ _ (lt-ltb s rows ls) (lt-ltb t cols lt)

module _ {S : Type 0} (K : Kind S) (rows cols : ℕ) (xs : List S) where
  pub grid_cell : (s t v : ℕ) → s < rows → t < cols → grid K rows cols xs s t v ≡ cell K xs (s * cols + t) v
  grid_cell s t v ls lt = ap (λ (b : Bool). b && cell K xs (s * cols + t) v) (inside rows cols s t ls lt)

  -- only pairs of the table hold something
  pub grid_inside : (s t v : ℕ) → grid K rows cols xs s t v ≡ true → (s < rows) × (t < cols)
  grid_inside s t v h = let a = and_parts _ _ (and_parts _ _ h).0 in (ltb-true _ _ a.0, ltb-true _ _ a.1)

  -- a pair that the table does not have, or for which there is no memory, holds nothing
  pub grid_outside : (s t v : ℕ) → (s < rows → t < cols → length xs ≤ s * cols + t) → grid K rows cols xs s t v ≡ false
  grid_outside s t v out = elim (cases_lt s rows) [
    | inr l ↦ and_left _ _ (and_left _ _ (le-ltb s rows l))
    | inl ls ↦ elim (cases_lt t cols) [
      | inr l ↦ and_left _ _ (and_right _ _ (le-ltb t cols l))
      | inl lt ↦ and_right _ _ (cell_past K xs (s * cols + t) (out ls lt) v)
    ]
  ]

  -- a row that was cut out
  pub row_cut : (s end : ℕ) → s < rows → end ≡ min (s * cols + cols) (length xs) → (t v : ℕ) →
      cell K (take (end - s * cols) (drop (s * cols) xs)) t v ≡ grid K rows cols xs s t v
  row_cut s end ls e t v = elim (cases_lt t (end - s * cols)) [
    | inl l ↦
        cell_take K (drop (s * cols) xs) (end - s * cols) t v l ∙ cell_drop K xs (s * cols) t v
        ∙ sym (grid_cell s t v ls (omega arith))
    | inr l ↦
        cell_past K (take (end - s * cols) (drop (s * cols) xs)) t (short l) v
        ∙ sym (grid_outside s t v (λ _ lt. omega arith))
  ]
    where
      short : end - s * cols ≤ t → length (take (end - s * cols) (drop (s * cols) xs)) ≤ t
      short l = omega (arith, length-take (end - s * cols) (drop (s * cols) xs))

  -- a row that is not there
  pub row_none : (s : ℕ) → (s < rows → min (s * cols + cols) (length xs) ≤ s * cols) → (t v : ℕ) → grid K rows cols xs s t v ≡ false
  row_none s out t v = grid_outside s t v (λ ls lt. omega (arith, out ls))

  -- a table after one of its pairs was written
  module _ (s t : ℕ) (x : S) (ls : s < rows) (lt : t < cols) (here : s * cols + t < length xs) where
    written_at : (s' t' v : ℕ) → grid K rows cols (set xs (s * cols + t) x) s' t' v ≡ written (grid K rows cols xs) s t (K.holds x) s' t' v
    written_at s' t' v = elim (cases_Bool (eqb s' s && eqb t' t)) [
      | inl e ↦
          let p = and_parts _ _ e in
          let es : s' ≡ s = eqb-true _ _ p.0 in
          let et : t' ≡ t = eqb-true _ _ p.1 in
          ap₂ (λ (a b : ℕ). grid K rows cols (set xs (s * cols + t) x) a b v) es et
          ∙ ap (λ (b : Bool). b && cell K (set xs (s * cols + t) x) (s * cols + t) v) (inside rows cols s t ls lt)
          ∙ cell_set_same K xs (s * cols + t) x here v
          ∙ sym (cond-true (eqb s' s && eqb t' t) (K.holds x v) (grid K rows cols xs s' t' v) e)
      | inr e ↦ away s' t' v e ∙ sym (cond-false (eqb s' s && eqb t' t) (K.holds x v) (grid K rows cols xs s' t' v) e)
    ]
      where
        away : (s' t' v : ℕ) → (eqb s' s && eqb t' t) ≡ false → grid K rows cols (set xs (s * cols + t) x) s' t' v ≡ grid K rows cols xs s' t' v
        away s' t' v e = elim (cases_Bool (ltb s' rows && ltb t' cols)) [
          | inl i ↦
              let l = ltb-true t' cols (and_parts _ _ i).1 in
              let apart : (s' * cols + t') ≢ (s * cols + t) = λ q.
              let p = digits_same cols s' t' s t l lt q in
              both_ways (eqb s' s && eqb t' t) e (and_from _ _ (eq-eqb s' s p.0) (eq-eqb t' t p.1)) in
              ap (λ (b : Bool). (ltb s' rows && ltb t' cols) && b) (cell_set_other K xs (s * cols + t) (s' * cols + t') x apart v)
          | inr i ↦ and_left _ _ i ∙ sym (and_left _ _ i)
        ]

    pub grid_set : grid K rows cols (set xs (s * cols + t) x) ≡ written (grid K rows cols xs) s t (K.holds x)
    grid_set = fun_ext (λ s'. fun_ext (λ t'. fun_ext (λ v. written_at s' t' v)))

-- a table is what its own places hold
pub grid_front : {S : Type 0} (K : Kind S) (rows cols a : ℕ) (xs ys : List S) → rows * cols ≤ a → take a xs ≡ take a ys → grid K rows cols xs ≡ grid K rows cols ys
grid_front {S} K rows cols a xs ys room e = fun_ext (λ s. fun_ext (λ t. fun_ext (λ v. at s t v)))
  where
    at : (s t v : ℕ) → grid K rows cols xs s t v ≡ grid K rows cols ys s t v
    at s t v = elim (cases_Bool (ltb s rows && ltb t cols)) [
      | inl i ↦
          let p = and_parts _ _ i in
          let l : s * cols + t < a = omega (arith, place_below s t rows cols (ltb-true _ _ p.0) (ltb-true _ _ p.1), room) in
          ap (λ (b : Bool). (ltb s rows && ltb t cols) && b)
          (sym (cell_take K xs a (s * cols + t) v l) ∙ ap (λ (zs : List S). cell K zs (s * cols + t) v) e ∙ cell_take K ys a (s * cols + t) v l)
      | inr i ↦ and_left _ _ i ∙ sym (and_left _ _ i)
    ]

-- a set of a kind holds only the kind's variants, so a table of its sets does
pub cell_within : {S : Type 0} (K : Kind S) → ((x : S) (v : ℕ) → K.holds x v ≡ true → v < K.variants) → (xs : List S) (k v : ℕ) → cell K xs k v ≡ true → v < K.variants
cell_within K law [] k v e = absurd (both_ways false refl e)
cell_within K law (x ∷ xs) zero v e = law x v e
cell_within K law (x ∷ xs) (suc k) v e = cell_within K law xs k v e

pub grid_within : {S : Type 0} (K : Kind S) → ((x : S) (v : ℕ) → K.holds x v ≡ true → v < K.variants) → (rows cols : ℕ) (xs : List S) →
    (s t v : ℕ) → grid K rows cols xs s t v ≡ true → (s < rows) × (t < cols) × (v < K.variants)
grid_within K law rows cols xs s t v h =
    let i = grid_inside K rows cols xs s t v h in
    (i.0, i.1, cell_within K law xs (s * cols + t) v (and_parts _ _ h).1)
