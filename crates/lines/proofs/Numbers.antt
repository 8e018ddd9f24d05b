-- One number more in a set.
use Rattle.std.proofs.Common.{◌≡◌, ℕ, Bool, true, false, ◌&&◌, ◌||◌, eqb, ltb, List, [], ◌∷◌, ◌++◌, refl, ap, ◌∙◌, ap₂, arith}
use mathlib.Core.Path.{fun_ext}
use Rattle.std.proofs.lemmas.Bool.{and_parts, and_from, ltb-true, lt-ltb}
use Rattle.theory.specs.Sets.{Variants}
use Rattle.variants.specs.Sets.{just}
use Rattle.worked.specs.Words.{set_of}
use Rattle.lines.specs.Meanings.{all_below_64}

-- a number that stands last, and those before it, are below 64
last_below : (xs : List ℕ) (x : ℕ) → all_below_64 (xs ++ x ∷ []) ≡ true → (all_below_64 xs ≡ true) × (ltb x 64 ≡ true)
last_below [] x e = (refl, (and_parts _ _ e).0)
last_below (y ∷ ys) x e =
    let both = and_parts _ _ e in
    let rest = last_below ys x both.1 in
    (and_from _ _ both.0 rest.0, rest.1)

last_in : (xs : List ℕ) (x v : ℕ) → (set_of xs v || eqb v x) ≡ set_of (xs ++ x ∷ []) v
last_in [] x v = none_or (eqb v x)
  where
    none_or : (b : Bool) → b ≡ (b || false)
    none_or true = refl
    none_or false = refl
last_in (y ∷ ys) x v = regroup (eqb v y) (set_of ys v) (eqb v x) ∙ ap (λ (b : Bool). eqb v y || b) (last_in ys x v)
  where
    regroup : (a b c : Bool) → ((a || b) || c) ≡ (a || (b || c))
    regroup true b c = refl
    regroup false b c = refl

-- the set of some numbers, and one number more, is the set of them all
pub set_more : (xs : List ℕ) (x : ℕ) (some all : Variants) → all_below_64 (xs ++ x ∷ []) ≡ true → (all_below_64 xs ≡ true → some ≡ set_of xs) →
    ((v : ℕ) → all v ≡ (some v || just 64 x v)) → all ≡ set_of (xs ++ x ∷ [])
set_more xs x some all few so_far is =
    let below = last_below xs x few in
    let less = ltb-true x 64 below.1 in
    let only : (v : ℕ) → just 64 x v ≡ eqb v x =
    λ v. ap (λ (d : Bool). eqb v x && d) (and_from _ _ below.1 (lt-ltb x 1024 (omega arith))) ∙ and_true (eqb v x) in
    fun_ext (λ v. is v ∙ ap₂ (λ (d e : Bool). d || e) (ap (λ (X : Variants). X v) (so_far below.0)) (only v) ∙ last_in xs x v)
  where
    and_true : (d : Bool) → (d && true) ≡ d
    and_true true = refl
    and_true false = refl
