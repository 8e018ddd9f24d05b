-- The machine of a variant, step by step.
use Rattle.std.proofs.Common.{◌≡◌, ℕ, Bool, true, false, cond, ◌⊎◌, List, [], ◌∷◌, ◌++◌, sym, refl, ap, subst, inl, inr}
use mathlib.Core.List.Memᴰ
use mathlib.Core.List.{Memᴰ}
use Rattle.std.proofs.lemmas.Bool.{cases_Bool}
use Rattle.theory.specs.Systems.{Move, Step, Family, move, moves, machine, Goes}

-- one step more: the machine has it if the step holds the variant
pub moves_push : (v : ℕ) (xs : List Step) (x : Step) → moves v (xs ++ x ∷ []) ≡ moves v xs ++ cond (x.held v) (move x ∷ []) []
moves_push v [] x = refl
moves_push v (y ∷ ys) x = go (y.held v) (moves_push v ys x)
  where
    go : (b : Bool) → moves v (ys ++ x ∷ []) ≡ moves v ys ++ cond (x.held v) (move x ∷ []) [] →
        cond b (move y ∷ moves v (ys ++ x ∷ [])) (moves v (ys ++ x ∷ [])) ≡ cond b (move y ∷ moves v ys) (moves v ys) ++ cond (x.held v) (move x ∷ []) []
    go true e = ap (λ (ms : List Move). move y ∷ ms) e
    go false e = e

-- the step of the family that a step of a machine comes from
pub record Source (xs : List Step) (v s a s' : ℕ) : Type 0 where
  pub step : Step
  pub listed : Memᴰ step xs
  pub leaves : step.from ≡ s
  pub does : step.action ≡ a
  pub enters : step.to ≡ s'
  pub holds : step.held v ≡ true

moves_in : {x : Step} {xs : List Step} (v : ℕ) → Memᴰ x xs → x.held v ≡ true → Memᴰ (move x) (moves v xs)
moves_in {x} v (Memᴰ.head {x = y} {xs = ys} e) h =
    let k : y.held v ≡ true = subst (λ (z : Step). z.held v ≡ true) e h in
    rw k (Memᴰ.head (ap move e))
moves_in {x} v (Memᴰ.tail {x = y} {xs = ys} m) h = go (y.held v) (moves_in v m h)
  where
    go : (b : Bool) → Memᴰ (move x) (moves v ys) → Memᴰ (move x) (cond b (move y ∷ moves v ys) (moves v ys))
    go true r = Memᴰ.tail r
    go false r = r

-- a step of the family that holds v is a step of v's machine
pub step_goes : (F : Family) (v : ℕ) (x : Step) → Memᴰ x F.steps → x.held v ≡ true → Goes (machine F v) x.from x.action x.to
step_goes F v x m h = moves_in v m h

-- and the other way round
pub goes_step : (v s a s' : ℕ) (xs : List Step) → Memᴰ (record { from = s; action = a; to = s' }) (moves v xs) → Source xs v s a s'
goes_step v s a s' [] m = absurd (Memᴰ.not-nil m)
goes_step v s a s' (y ∷ ys) m = go (cases_Bool (y.held v)) (λ r. goes_step v s a s' ys r)
  where
    later : Source ys v s a s' → Source (y ∷ ys) v s a s'
    later r = record { step = r.step; listed = Memᴰ.tail r.listed; leaves = r.leaves; does = r.does; enters = r.enters; holds = r.holds }

    first : Memᴰ {A = Move} (record { from = s; action = a; to = s' }) (move y ∷ moves v ys) → y.held v ≡ true →
        (Memᴰ {A = Move} (record { from = s; action = a; to = s' }) (moves v ys) → Source ys v s a s') → Source (y ∷ ys) v s a s'
    first (Memᴰ.head e) h rest =
        record {
          step = y;
          listed = Memᴰ.head refl;
          leaves = sym (ap (λ (z : Move). z.from) e);
          does = sym (ap (λ (z : Move). z.action) e);
          enters = sym (ap (λ (z : Move). z.to) e);
          holds = h;
        }
    first (Memᴰ.tail r) h rest = later (rest r)

    go : (y.held v ≡ true) ⊎ (y.held v ≡ false) → (Memᴰ {A = Move} (record { from = s; action = a; to = s' }) (moves v ys) → Source ys v s a s') → Source (y ∷ ys) v s a s'
    go (inl h) rest = first (rw h at m) h rest
    go (inr h) rest = later (rest (rw h at m))
