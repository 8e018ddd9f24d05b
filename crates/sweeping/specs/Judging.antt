-- What a left step leaves of a pair's set.
use Rattle.std.specs.Prelude.{◌≡◌, ℕ, ◌+◌, ◌≤◌, not, ◌&&◌, ◌||◌}
use Rattle.theory.specs.Sets.{Variants, gone}
use Rattle.theory.specs.Tables.{Table}
use Rattle.theory.specs.Sweeps.{applies, answered}
use Rattle.variants.specs.declared.VariantSet.{Ghosts as Kind}
use Rattle.variants.specs.Kinds.{Countable}
use Rattle.families.specs.declared.parts.Step.{Step}
use Rattle.families.specs.Models.{step_of}
use Rattle.families.specs.Drafts.{model}
use Rattle.sweeping.specs.declared.Sides.{Sides}
use Rattle.sweeping.specs.declared.judging.Judged.{Judged}

-- a step strikes a variant in which it is there and not followed, and spares every other
abbrev pub spared : (there followed : Variants) → Variants
spared there followed v = not (there v) || followed v

module _ {S : Type 0} (K : Kind S) where
  -- the variants that a left step spares at the pair of s and t: it is no step from s there, or some right step answers it
  abbrev pub spared_at : Sides S → Table → (s t : ℕ) → Step S → Variants
  spared_at sides T s t left =
      spared (λ v. applies s v (step_of K left)) (answered (model K sides.right.now).steps T t (step_of K left))

  -- judged by a test: of the variants that were held just those that pass are kept, and the others are counted as strikes (where
  -- no count is capped)
  pub record JudgedBy (held passes : Variants) (judged : Judged S) : Type 0 where
    pub kept : (v : ℕ) → K.holds judged.kept v ≡ (held v && passes v)
    pub strikes : Countable K → judged.strikes ≡ gone K.variants held (K.holds judged.kept)

  -- judged by one test more: of the variants that were kept just those that pass still are, and the others add to the strikes
  pub record JudgedFurther (before : Judged S) (passes : Variants) (after : Judged S) : Type 0 where
    pub kept : (v : ℕ) → K.holds after.kept v ≡ (K.holds before.kept v && passes v)
    pub strikes : Countable K → before.strikes ≤ 1024 → after.strikes ≡ before.strikes + gone K.variants (K.holds before.kept) (K.holds after.kept)
