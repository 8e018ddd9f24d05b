-- A table after a visit, and after several.
use Rattle.std.proofs.Common.{◌≡◌, ℕ, ◌+◌, ◌*◌, false, ◌&&◌, eqb, length, sym, refl, ap, ◌∙◌, ap₂, inl, inr, ◌≤◌, mul-le-mul, arith}
use mathlib.Core.Path.{fun_ext}
use Rattle.std.proofs.lemmas.Bool.{and_parts, and_left, and_from, eqb-true, eq-eqb, cases_Bool, cases_lt, cond-true, cond-false}
use Rattle.theory.specs.Sets.{gone}
use Rattle.theory.specs.Tables as theory
use Rattle.theory.specs.Sweeps.{Rule, visited, row_struck}
use Rattle.theory.proofs.Sweeps.{row_struck_few}
use Rattle.theory.proofs.Cards.{gone_same}
use Rattle.variants.specs.declared.VariantSet.{Ghosts as Kind}
use Rattle.tables.specs.declared.Table.{Table}
use Rattle.tables.specs.Cells.{grid}
use Rattle.tables.specs.Tables.{standing, written, Has, Same}
use Rattle.tables.proofs.Places.{grid_outside}
use Rattle.tables.proofs.Tables.{has_or_not}

-- a visit of a pair that holds nothing changes nothing
visited_nothing : (rule : Rule) (T : theory.Table) (s t : ℕ) → ((v : ℕ) → T s t v ≡ false) → T ≡ visited rule T s t
visited_nothing rule T s t none = fun_ext (λ s'. fun_ext (λ t'. fun_ext (λ v. at s' t' v)))
  where
    at : (s' t' v : ℕ) → T s' t' v ≡ visited rule T s t s' t' v
    at s' t' v = elim (cases_Bool (eqb s' s && eqb t' t)) [
      | inl e ↦
          let p = and_parts _ _ e in
          let es : s' ≡ s = eqb-true _ _ p.0 in
          let et : t' ≡ t = eqb-true _ _ p.1 in
          ap₂ (λ (x y : ℕ). T x y v) es et ∙ none v ∙ sym (and_left (T s t v) (rule T s t v) (none v))
          ∙ sym (cond-true (eqb s' s && eqb t' t) (T s t v && rule T s t v) (T s' t' v) e)
      | inr e ↦ sym (cond-false (eqb s' s && eqb t' t) (T s t v && rule T s t v) (T s' t' v) e)
    ]

pub visited_here : (rule : Rule) (T : theory.Table) (s t v : ℕ) → visited rule T s t s t v ≡ (T s t v && rule T s t v)
visited_here rule T s t v =
    cond-true (eqb s s && eqb t t) (T s t v && rule T s t v) (T s t v) (and_from _ _ (eq-eqb s s refl) (eq-eqb t t refl))

-- what the rule keeps was written at the pair, if the table has it
module _ {S : Type 0} (K : Kind S) (rule : Rule) (T U : Table S) (s t : ℕ) (x : S)
    (writes : Has T s t → standing K U ≡ written (standing K T) s t (K.holds x))
    (passes : (Has T s t → ⊥) → Same T U)
    (kept : (v : ℕ) → K.holds x v ≡ (standing K T s t v && rule (standing K T) s t v)) where
  pub visit_done : standing K U ≡ visited rule (standing K T) s t
  visit_done = elim (has_or_not T s t) [
    | inl h ↦ writes h ∙ ap (written (standing K T) s t) (fun_ext kept)
    | inr lacks ↦
        let same = passes lacks in
        let none : (v : ℕ) → standing K T s t v ≡ false =
        λ v. grid_outside K T.rows T.cols T.cells.now s t v (λ ls lt. elim (cases_lt (s * T.cols + t) (length T.cells.now)) [
          | inl here ↦ absurd (lacks (record { row = ls; col = lt; place = here }))
          | inr l ↦ l
        ]) in
        ap₂ (λ (n m : ℕ). grid K n m U.cells.now) same.rows same.cols
        ∙ ap (grid K T.rows T.cols) same.cells
        ∙ visited_nothing rule (standing K T) s t none
  ]

  -- and what was struck is what the table has lost there
  pub struck_here : (V : ℕ) → gone V (standing K T s t) (K.holds x) ≡ gone V (standing K T s t) (standing K U s t)
  struck_here V =
      gone_same V (standing K T s t) (standing K T s t) (K.holds x) (standing K U s t) (λ v. refl)
      (λ v. kept v ∙ sym (visited_here rule (standing K T) s t v) ∙ sym (ap (λ (X : theory.Table). X s t v) visit_done))

-- the visits of a part of a row strike no more than its 256 pairs hold
pub row_struck_fits : (V : ℕ) (rule : Rule) (T : theory.Table) (s t : ℕ) → t ≤ 256 → V ≤ 1024 → row_struck V rule T s t ≤ 256 * 1024
row_struck_fits V rule T s t far narrow =
    let few = row_struck_few V rule T s t in
    let bound : t * V ≤ 256 * 1024 = mul-le-mul far narrow in
    omega arith
