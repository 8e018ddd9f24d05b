-- Each call that a comparison takes has one outcome.
use Rattle.std.proofs.Common.{◌≡◌, ℕ, zero, suc, ◌+◌, ◌<◌, ◌≤◌, true, false, cond, ◌⊎◌, [], ◌∷◌, refl, ap, ap₂, inl, inr, arith}
use Rattle.std.proofs.lemmas.Bool.{cases_eq, cases_lt}
use Rattle.theory.specs.Sets.{members}
use Rattle.theory.specs.Systems.{Family}
use Rattle.theory.specs.Sweeps.{strikes}
use Rattle.theory.specs.Answers.{Answer, granted, refused}
use Rattle.theory.specs.Calls.{Frame, Moment, Last, unswept, struck, Call, sweep, run, ask, settle, verdict, Brings, after_sweep, after_settle, Ran, spent, quiet, on, Does, swept_once, swept_refused, ran, run_refused, asked, ask_no_pair, ask_no_variant, settled_now, settle_refused, judged, CallsHaveOneOutcome}

abbrev Decided : Type 0 → Type 0
Decided A = A ⊎ (A → ⊥)

by_way_of : {A B : Type 0} → (A → B) → (B → A) → Decided A → Decided B
by_way_of f g (inl a) = inl (f a)
by_way_of f g (inr n) = inr (λ b. n (g b))

both : {A B : Type 0} → Decided A → Decided B → Decided (A × B)
both (inl a) (inl b) = inl (a, b)
both (inl a) (inr n) = inr (λ p. n p.1)
both (inr n) d = inr (λ p. n p.0)

brings_decided : (f : Frame) (L R : Family) → Decided (Brings f L R)
brings_decided f L R =
    by_way_of
    (λ p. record { left_states = p.0; left_start = p.1.0; right_states = p.1.1.0; right_start = p.1.1.1 })
    (λ b. (b.left_states, (b.left_start, (b.right_states, b.right_start))))
    (both (cases_eq L.states f.left_states) (both (cases_eq L.start f.left_start)
    (both (cases_eq R.states f.right_states) (cases_eq R.start f.right_start))))

quiet_decided : (l : Last) → Decided (l ≡ struck 0)
quiet_decided unswept = inr (λ e. let z : ◌≡◌ {A = ℕ} 0 1 = cc in omega arith)
quiet_decided (struck n) = by_way_of (ap struck) (λ e. out n e) (cases_eq n 0)
  where
    out : (n : ℕ) → struck n ≡ struck 0 → n ≡ 0
    out n e = cc

module _ (V : ℕ) (L R : Family) where
  record Run (b : ℕ) (m : Moment) : Type 0 where
    sweeps : ℕ
    strokes : ℕ
    left : Moment
    made : Ran V L R b m sweeps strokes left

  runs : (b : ℕ) (m : Moment) → Run b m
  runs zero m = record { sweeps = 0; strokes = 0; left = m; made = spent }
  runs (suc b) m = go (cases_eq (strikes L R V m.table) 0) (runs b (after_sweep V L R m))
    where
      go : Decided (strikes L R V m.table ≡ 0) → Run b (after_sweep V L R m) → Run (suc b) m
      go (inl e) r = record { sweeps = 1; strokes = 0; left = after_sweep V L R m; made = quiet e }
      go (inr n) r =
          record {
            sweeps = suc r.sweeps;
            strokes = strikes L R V m.table + r.strokes;
            left = r.left;
            made = on (omega arith) r.made;
          }

  runs_one : {b : ℕ} {m : Moment} {j k : ℕ} {m' : Moment} {j' k' : ℕ} {m'' : Moment} →
      Ran V L R b m j k m' → Ran V L R b m j' k' m'' → (j ≡ j') × (k ≡ k') × (m' ≡ m'')
  runs_one spent spent = (refl, refl, refl)
  runs_one (quiet e) (quiet e') = (refl, refl, refl)
  runs_one (quiet e) (on l r) = absurd (omega arith)
  runs_one (on l r) (quiet e) = absurd (omega arith)
  runs_one (on {m = m} l r) (on l' r') =
      let q = runs_one r r' in (ap suc q.0, ap (λ (x : ℕ). strikes L R V m.table + x) q.1, q.2)

module _ (f : Frame) (m : Moment) where
  abbrev Outcome : Call → Type 0
  Outcome c = (a : Answer) × (m' : Moment) × Does f m c a m' × ((b : Answer) (n : Moment) → Does f m c b n → (b ≡ a) × (n ≡ m'))

  sweeps_once : (L R : Family) → m.settled ≡ false → Decided (Brings f L R) → Outcome (sweep L R)
  sweeps_once L R o (inl y) = (_, _, swept_once o y, λ b n d. go d)
    where
      go : {b : Answer} {n : Moment} → Does f m (sweep L R) b n → (b ≡ granted (strikes L R f.variants m.table ∷ [])) × (n ≡ after_sweep f.variants L R m)
      go (swept_once o' y') = (refl, refl)
      go (swept_refused o' x) = absurd (x y)
  sweeps_once L R o (inr x) = (_, _, swept_refused o x, λ b n d. go d)
    where
      go : {b : Answer} {n : Moment} → Does f m (sweep L R) b n → (b ≡ refused 3) × (n ≡ m)
      go (swept_once o' y) = absurd (x y)
      go (swept_refused o' x') = (refl, refl)

  runs_once : (k : ℕ) (L R : Family) → m.settled ≡ false → Decided (Brings f L R) → Outcome (run k L R)
  runs_once k L R o (inl y) = (_, _, ran o y r.made, λ b n d. go d)
    where
      r : Run f.variants L R k m
      r = runs f.variants L R k m

      go : {b : Answer} {n : Moment} → Does f m (run k L R) b n → (b ≡ granted (r.sweeps ∷ r.strokes ∷ [])) × (n ≡ r.left)
      go (ran o' y' s) = let q = runs_one f.variants L R s r.made in (ap₂ (λ (i j : ℕ). granted (i ∷ j ∷ [])) q.0 q.1, q.2)
      go (run_refused o' x) = absurd (x y)
  runs_once k L R o (inr x) = (_, _, run_refused o x, λ b n d. go d)
    where
      go : {b : Answer} {n : Moment} → Does f m (run k L R) b n → (b ≡ refused 3) × (n ≡ m)
      go (ran o' y s) = absurd (x y)
      go (run_refused o' x') = (refl, refl)

  asks_once : (s t v : ℕ) → Outcome (ask s t v)
  asks_once s t v = go (cases_lt s f.left_states) (cases_lt t f.right_states) (cases_lt v f.variants)
    where
      no_pair : (f.left_states ≤ s) ⊎ (f.right_states ≤ t) → Outcome (ask s t v)
      no_pair out = (_, _, ask_no_pair out, λ b n d. one d)
        where
          one : {b : Answer} {n : Moment} → Does f m (ask s t v) b n → (b ≡ refused 4) × (n ≡ m)
          one (asked ls lt lv) = absurd (omega arith)
          one (ask_no_pair o) = (refl, refl)
          one (ask_no_variant ls lt o) = absurd (omega arith)

      go : (s < f.left_states) ⊎ (f.left_states ≤ s) → (t < f.right_states) ⊎ (f.right_states ≤ t) → (v < f.variants) ⊎ (f.variants ≤ v) → Outcome (ask s t v)
      go (inr l) x y = no_pair (inl l)
      go (inl ls) (inr l) y = no_pair (inr l)
      go (inl ls) (inl lt) (inr o) = (_, _, ask_no_variant ls lt o, λ b n d. one d)
        where
          one : {b : Answer} {n : Moment} → Does f m (ask s t v) b n → (b ≡ refused 8) × (n ≡ m)
          one (asked ls' lt' lv) = absurd (omega arith)
          one (ask_no_pair x) = absurd (omega arith)
          one (ask_no_variant ls' lt' o') = (refl, refl)
      go (inl ls) (inl lt) (inl lv) = (_, _, asked ls lt lv, λ b n d. one d)
        where
          one : {b : Answer} {n : Moment} → Does f m (ask s t v) b n → (b ≡ granted (cond (m.table s t v) 1 0 ∷ [])) × (n ≡ m)
          one (asked ls' lt' lv') = (refl, refl)
          one (ask_no_pair x) = absurd (omega arith)
          one (ask_no_variant ls' lt' o') = absurd (omega arith)

  settles_once : m.settled ≡ false → Decided (m.last ≡ struck 0) → Outcome settle
  settles_once o (inl e) = (_, _, settled_now o e, λ b n d. go d)
    where
      go : {b : Answer} {n : Moment} → Does f m settle b n → (b ≡ granted []) × (n ≡ after_settle m)
      go (settled_now o' e') = (refl, refl)
      go (settle_refused o' x) = absurd (x e)
  settles_once o (inr x) = (_, _, settle_refused o x, λ b n d. go d)
    where
      go : {b : Answer} {n : Moment} → Does f m settle b n → (b ≡ refused 9) × (n ≡ m)
      go (settled_now o' e) = absurd (x e)
      go (settle_refused o' x') = (refl, refl)

  judges_once : m.settled ≡ true → Outcome verdict
  judges_once o = (_, _, judged o, λ b n d. go d)
    where
      go : {b : Answer} {n : Moment} → Does f m verdict b n → (b ≡ granted (members f.variants (m.table f.left_start f.right_start))) × (n ≡ m)
      go (judged o') = (refl, refl)

pub calls_have_one_outcome : CallsHaveOneOutcome
calls_have_one_outcome f m (sweep L R) o = sweeps_once f m L R o (brings_decided f L R)
calls_have_one_outcome f m (run k L R) o = runs_once f m k L R o (brings_decided f L R)
calls_have_one_outcome f m (ask s t v) o = asks_once f m s t v
calls_have_one_outcome f m settle o = settles_once f m o (quiet_decided m.last)
calls_have_one_outcome f m verdict o = judges_once f m o
