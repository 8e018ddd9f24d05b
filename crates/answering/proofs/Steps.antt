-- The answers among the steps that leave a state.
use Rattle.std.proofs.Common.{◌≡◌, ℕ, ◌+◌, Bool, true, false, cond, ◌&&◌, ◌||◌, eqb, List, [], ◌∷◌, ◌++◌, map, sym, refl, ap, ◌∙◌}
use Rattle.theory.specs.Systems as theory
use Rattle.theory.specs.Tables.{Table}
use Rattle.theory.specs.Sweeps.{answers, answered}
use Rattle.theory.proofs.Booleans.{or_false, or_assoc}
use Rattle.variants.specs.declared.VariantSet.{Ghosts as Kind}
use Rattle.families.specs.declared.parts.Step.{Step}
use Rattle.families.specs.declared.seeking.Sought.TheVariants.{Leaving}
use Rattle.families.specs.Models.{step_of}
use Rattle.families.specs.Seeking.{numbered}

module _ {S : Type 0} (K : Kind S) (T : Table) (t : ℕ) (y : theory.Step) (v : ℕ) where
  -- one of the steps, each with its place, answers
  abbrev pub answered_by : List (ℕ × Step S) → Bool
  answered_by ps = answered (map (λ p. step_of K p.1) ps) T t y v

  -- one step more at the end
  pub answered_more : (ps : List (ℕ × Step S)) (p : ℕ × Step S) → answered_by (ps ++ p ∷ []) ≡ (answered_by ps || answers T t y v (step_of K p.1))
  answered_more [] p = or_false _
  answered_more (q ∷ ps) p = ap (λ (b : Bool). answers T t y v (step_of K q.1) || b) (answered_more ps p) ∙ or_assoc (answers T t y v (step_of K q.1)) (answered_by ps) (answers T t y v (step_of K p.1))

  -- a step from elsewhere answers nothing
  pub answered_leaving : (xs : List (Step S)) (k : ℕ) → answered_by (numbered (Leaving t) xs k) ≡ answered (map (step_of K) xs) T t y v
  unfolding numbered
  answered_leaving [] k = refl
  answered_leaving (x ∷ xs) k = either (eqb x.from t) refl (answered_leaving xs (k + 1))
    where
      later : List (ℕ × Step S)
      later = numbered (Leaving t) xs (k + 1)

      all : Bool
      all = answered (map (step_of K) xs) T t y v

      does : Bool
      does = eqb x.action y.action && (K.holds x.set v && T y.to x.to v)

      either : (b : Bool) → eqb x.from t ≡ b → answered_by later ≡ all → answered_by (cond b ((k, x) ∷ later) later) ≡ (answers T t y v (step_of K x) || all)
      either true e h = ap (λ (b : Bool). answers T t y v (step_of K x) || b) h
      either false e h = h ∙ sym (ap (λ (b : Bool). (b && does) || all) e)
