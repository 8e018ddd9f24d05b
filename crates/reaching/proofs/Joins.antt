-- What one write leaves of a table of reach, and what is kept while the reach is worked out.
use Rattle.std.proofs.Common.{◌≡◌, ℕ, ◌+◌, ◌-◌, ◌*◌, ◌^◌, ◌<◌, ◌≤◌, min, Bool, true, ◌&&◌, ◌||◌, eqb, Decides, refl, sym, ap, ◌∙◌, ap₂, inl, inr, mul-le-mul, arith}
use Rattle.std.proofs.lemmas.Bool.{and_parts, eqb-true, cases_Bool, cond-true, cond-false}
use Rattle.theory.specs.Sets.{Variants}
use Rattle.theory.specs.Systems.{Step}
use Rattle.theory.specs.Tables.{Table}
use Rattle.theory.specs.Reach.{joined}
use Rattle.theory.proofs.Booleans.{or_false}
use Rattle.theory.proofs.Reach.{same_table, Inside}
use Rattle.variants.specs.declared.VariantSet.{Ghosts as Kind}
use Rattle.tables.specs.Tables.{written}
use Rattle.tables.proofs.Places.{grid_within}
use Rattle.tables.proofs.Tables.{written_here, resembles_refl, resembles_trans}
use Rattle.reaching.specs.declared.Reaching.{Reaching}
use Rattle.reaching.specs.Working.{Kept, worked}

-- the step's gain is written
pub written_joined : (T : Table) (x : Step) (i : ℕ) (X : Variants) → ((v : ℕ) → X v ≡ (T i x.to v || (T i x.from v && x.held v))) →
    written T i x.to X ≡ joined x i T
written_joined T x i X gain = same_table at
  where
    at : (s t v : ℕ) → written T i x.to X s t v ≡ joined x i T s t v
    at s t v = elim (cases_Bool (eqb s i && eqb t x.to)) [
      | inl b ↦
          let p = and_parts _ _ b in
          cond-true (eqb s i && eqb t x.to) (X v) (T s t v) b
          ∙ gain v
          ∙ ap₂ (λ (y z : ℕ). T y z v || (T i x.from v && x.held v)) (sym (eqb-true s i p.0)) (sym (eqb-true t x.to p.1))
          ∙ ap (λ (c : Bool). T s t v || (c && (T i x.from v && x.held v))) (sym b)
      | inr b ↦
          cond-false (eqb s i && eqb t x.to) (X v) (T s t v) b
          ∙ sym (or_false (T s t v))
          ∙ ap (λ (c : Bool). T s t v || (c && (T i x.from v && x.held v))) (sym b)
    ]

-- a table is the same after a write exactly if the set holds what the old one did
pub written_same : (T U : Table) (s t : ℕ) (X Y : Variants) (r : Bool) → U ≡ written T s t X → ((v : ℕ) → Y v ≡ T s t v) →
    Decides r ((v : ℕ) → X v ≡ Y v) → Decides r (U ≡ T)
written_same T U s t X Y r w old d = (
  λ h. w ∙ same_table (λ s' t' v. kept (d.0 h) s' t' v),
  λ h. d.1 (λ v. sym (written_here T U s t X w v) ∙ ap (λ (W : Table). W s t v) h ∙ sym (old v)),
)
  where
    kept : ((v : ℕ) → X v ≡ Y v) → (s' t' v : ℕ) → written T s t X s' t' v ≡ T s' t' v
    kept same s' t' v = elim (cases_Bool (eqb s' s && eqb t' t)) [
      | inl h ↦
          let p = and_parts _ _ h in
          cond-true (eqb s' s && eqb t' t) (X v) (T s' t' v) h ∙ same v ∙ old v
          ∙ ap₂ (λ (a b : ℕ). T a b v) (sym (eqb-true s' s p.0)) (sym (eqb-true t' t p.1))
      | inr h ↦ cond-false (eqb s' s && eqb t' t) (X v) (T s' t' v) h
    ]

module _ {S : Type 0} where
  pub kept_refl : (x : Reaching S) → Kept x x
  kept_refl x = record { family = refl; memory = refl; table = resembles_refl x.table.now }

  pub kept_trans : (x y z : Reaching S) → Kept x y → Kept y z → Kept x z
  kept_trans x y z p q =
      record { family = q.family ∙ p.family; memory = q.memory ∙ p.memory; table = resembles_trans x.table.now y.table.now z.table.now p.table q.table }

-- what is worked out holds nothing outside the family's states and the kind
pub worked_inside : {S : Type 0} (K : Kind S) → ((x : S) (v : ℕ) → K.holds x v ≡ true → v < K.variants) → (x : Reaching S) →
    Inside K.variants x.family.now.parts.states (worked K x)
worked_inside K law x s t v h =
    let T = x.table.now in
    let i = grid_within K law T.rows T.cols T.cells.now s t v h in
    (omega (arith, x.rows, i.0), omega (arith, x.cols, i.1), i.2)

-- the count of the rounds is not capped
pub counted_exact : (n V r m k : ℕ) → n ≤ 64 → V ≤ 1024 → r + m ≤ n * (n * V) → k ≡ min (r + 1) (2 ^ 32 - 1) → k ≡ r + 1
counted_exact n V r m k small narrow few e =
    let row : n * V ≤ 64 * 1024 = mul-le-mul small narrow in
    let all : n * (n * V) ≤ 64 * (64 * 1024) = mul-le-mul small row in
    omega arith
