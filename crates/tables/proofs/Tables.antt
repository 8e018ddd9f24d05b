-- Tables that resemble each other, and tables that are filled.
use Rattle.std.proofs.Common.{◌≡◌, ℕ, ◌+◌, ◌*◌, ◌<◌, ◌&&◌, eqb, ◌⊎◌, length, drop, sym, refl, ap, ◌∙◌, subst, ap₂, inl, inr, arith}
use Rattle.std.proofs.lemmas.Bool.{and_from, and_left, and_right, eq-eqb, ne_eqb, cond-true, cond-false, cases_eq, cases_lt}
use Rattle.theory.specs.Sets.{Variants}
use Rattle.theory.specs.Tables as theory
use Rattle.tables.specs.declared.Table.{Table}
use Rattle.tables.specs.Tables.{written, Fits, Has, Resembles}
use Rattle.tables.proofs.Places.{place_below}

pub resembles_refl : {S : Type 0} (T : Table S) → Resembles T T
resembles_refl T = record { rows = refl; cols = refl; memory = refl; size = refl; beyond = refl }

pub resembles_trans : {S : Type 0} (T U W : Table S) → Resembles T U → Resembles U W → Resembles T W
resembles_trans T U W p q =
    let pairs : U.rows * U.cols ≡ T.rows * T.cols = ap₂ (λ (n m : ℕ). n * m) p.rows p.cols in
    record {
      rows = q.rows ∙ p.rows;
      cols = q.cols ∙ p.cols;
      memory = q.memory ∙ p.memory;
      size = q.size ∙ p.size;
      beyond = subst (λ (k : ℕ). drop k W.cells.now ≡ drop k U.cells.now) pairs q.beyond ∙ p.beyond;
    }

-- a table with room has every pair of its states
pub has_pair : {S : Type 0} (T : Table S) (s t : ℕ) → Fits T → s < T.rows → t < T.cols → Has T s t
has_pair T s t fits ls lt = record { row = ls; col = lt; place = omega (arith, place_below s t T.rows T.cols ls lt, fits) }

pub has_or_not : {S : Type 0} (T : Table S) (s t : ℕ) → Has T s t ⊎ (Has T s t → ⊥)
has_or_not T s t = elim (cases_lt s T.rows) [
  | inr l ↦ inr (λ h. omega (arith, h.row))
  | inl ls ↦ elim (cases_lt t T.cols) [
    | inr l ↦ inr (λ h. omega (arith, h.col))
    | inl lt ↦ elim (cases_lt (s * T.cols + t) (length T.cells.now)) [
      | inr l ↦ inr (λ h. omega (arith, h.place))
      | inl here ↦ inl (record { row = ls; col = lt; place = here })
    ]
  ]
]

pub fits_still : {S : Type 0} (T U : Table S) → Resembles T U → Fits T → Fits U
fits_still T U e fits =
    let pairs : U.rows * U.cols ≡ T.rows * T.cols = ap₂ (λ (n m : ℕ). n * m) e.rows e.cols in
    omega (arith, pairs, e.size, fits)

-- a table after one pair was written, at that pair and elsewhere
module _ (T U : theory.Table) (s t : ℕ) (X : Variants) (w : U ≡ written T s t X) where
  at : (s' t' v : ℕ) → U s' t' v ≡ written T s t X s' t' v
  at s' t' v = ap (λ (Y : theory.Table). Y s' t' v) w

  pub written_here : (v : ℕ) → U s t v ≡ X v
  written_here v = at s t v ∙ cond-true (eqb s s && eqb t t) (X v) (T s t v) (and_from _ _ (eq-eqb s s refl) (eq-eqb t t refl))

  pub written_other : (r t' v : ℕ) → (r ≡ s → ⊥) → U r t' v ≡ T r t' v
  written_other r t' v ne = at r t' v ∙ cond-false (eqb r s && eqb t' t) _ _ (and_left _ _ (ne_eqb r s ne))

  -- one pair more of a row
  pub written_more : (B : theory.Table) → ((v : ℕ) → X v ≡ B s t v) → ((t' v : ℕ) → t' < t → T s t' v ≡ B s t' v) →
      (t' v : ℕ) → t' < t + 1 → U s t' v ≡ B s t' v
  written_more B here before t' v l = elim (cases_eq t' t) [
    | inl e ↦ ap (λ (k : ℕ). U s k v) e ∙ written_here v ∙ here v ∙ ap (λ (k : ℕ). B s k v) (sym e)
    | inr ne ↦ at s t' v ∙ cond-false (eqb s s && eqb t' t) _ _ (and_right _ _ (ne_eqb t' t ne)) ∙ before t' v (omega arith)
  ]
