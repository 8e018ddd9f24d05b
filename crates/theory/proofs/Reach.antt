-- The laws of the rounds of silent reach: they only add, stay sound, end, and end complete.
use Rattle.std.proofs.Common.{◌≡◌, ℕ, zero, suc, ◌+◌, ◌*◌, ◌<◌, ◌≤◌, Bool, true, false, not, ◌&&◌, eqb, List, [], ◌∷◌, ◌++◌, Decides, sym, refl, ap, ◌∙◌, subst, subst₂, inl, inr, arith}
use mathlib.Core.List.{Memᴰ}
use Rattle.std.proofs.lemmas.Bool.{and_parts, and_from, or_cases, or_left, or_right, eqb-true, eq-eqb, lt-ltb, both_ways, cases_Bool, cases_eq, cond_both, cond-true}
use Rattle.theory.specs.Systems.{Step, Family, machine, silence, Goes}
use Rattle.theory.specs.Tables.{Table}
use Rattle.theory.specs.Bisimulations.{Silently, stays, goes}
use Rattle.theory.specs.Sweeps.{removed}
use Rattle.theory.specs.Reach.{Reaches, reach_begun, joined, passed, stepped, round, Rounds, last, more}
use Rattle.theory.proofs.Cards.{card_le, card_none, gone_adds}
use Rattle.theory.proofs.Counting.{sum_adds, sum_none, sum_bound}
use Rattle.theory.proofs.Systems.{step_goes, goes_step}

-- what T has, U has too
abbrev pub Less : Table → Table → Type 0
Less T U = (s t v : ℕ) → T s t v ≡ true → U s t v ≡ true

same_bool : (a b : Bool) → (a ≡ true → b ≡ true) → (b ≡ true → a ≡ true) → a ≡ b
same_bool true true p q = refl
same_bool true false p q = sym (p refl)
same_bool false true p q = q refl
same_bool false false p q = refl

pub same_table : {T U : Table} → ((s t v : ℕ) → T s t v ≡ U s t v) → T ≡ U
same_table h = λ k s t v. h s t v k

squeezed : {T U : Table} → Less T U → Less U T → U ≡ T
squeezed {T} {U} p q = same_table (λ s t v. same_bool (U s t v) (T s t v) (q s t v) (p s t v))

less_same : {T U : Table} → T ≡ U → Less T U
less_same e s t v h = ap (λ (W : Table). W s t v) (sym e) ∙ h

-- a round only adds
pub joined_more : (x : Step) (i : ℕ) (T : Table) → Less T (joined x i T)
joined_more x i T s t v h = or_left _ _ h

pub passed_more : (x : Step) (i : ℕ) (T : Table) → Less T (passed x i T)
passed_more x zero T s t v h = h
passed_more x (suc i) T s t v h = joined_more x i (passed x i T) s t v (passed_more x i T s t v h)

pub stepped_more : (n : ℕ) (x : Step) (T : Table) → Less T (stepped n x T)
stepped_more n x T s t v h = cond_both (eqb x.action silence) _ _ (λ (U : Table). U s t v ≡ true) (λ _. passed_more x n T s t v h) (λ _. h)

pub round_more : (n : ℕ) (xs : List Step) (T : Table) → Less T (round n xs T)
round_more n [] T s t v h = h
round_more n (x ∷ xs) T s t v h = round_more n xs (stepped n x T) s t v (stepped_more n x T s t v h)

-- only variants in which silent steps lead from s to t
abbrev pub Sound : Family → Table → Type 0
Sound F T = (s t v : ℕ) → T s t v ≡ true → Silently (machine F v) s t

joined_sound : (F : Family) (x : Step) → Memᴰ x F.steps → x.action ≡ silence → (i : ℕ) (T : Table) → Sound F T → Sound F (joined x i T)
joined_sound F x m quiet i T sound s t v h = elim (or_cases _ _ h) [
  | inl p ↦ sound s t v p
  | inr p ↦
      let a = and_parts _ _ p in
      let b = and_parts _ _ a.0 in
      let c = and_parts _ _ a.1 in
      let es : s ≡ i = eqb-true _ _ b.0 in
      let et : t ≡ x.to = eqb-true _ _ b.1 in
      let step : Goes (machine F v) x.from silence x.to =
      subst (λ (k : ℕ). Goes (machine F v) x.from k x.to) quiet (step_goes F v x m c.1) in
      subst₂ (λ (j k : ℕ). Silently (machine F v) j k) (sym es) (sym et) (goes (sound i x.from v c.0) step)
]

passed_sound : (F : Family) (x : Step) → Memᴰ x F.steps → x.action ≡ silence → (i : ℕ) (T : Table) → Sound F T → Sound F (passed x i T)
passed_sound F x m quiet zero T sound = sound
passed_sound F x m quiet (suc i) T sound = joined_sound F x m quiet i (passed x i T) (passed_sound F x m quiet i T sound)

stepped_sound : (F : Family) (n : ℕ) (x : Step) → Memᴰ x F.steps → (T : Table) → Sound F T → Sound F (stepped n x T)
stepped_sound F n x m T sound =
    cond_both (eqb x.action silence) _ _ (Sound F) (λ e. passed_sound F x m (eqb-true _ _ e) n T sound) (λ _. sound)

steps_sound : (F : Family) (n : ℕ) (xs : List Step) → ((x : Step) → Memᴰ x xs → Memᴰ x F.steps) → (T : Table) → Sound F T → Sound F (round n xs T)
steps_sound F n [] among T sound = sound
steps_sound F n (x ∷ xs) among T sound =
    steps_sound F n xs (λ y m. among y (Memᴰ.tail m)) (stepped n x T) (stepped_sound F n x (among x (Memᴰ.head refl)) T sound)

round_sound : (F : Family) (T : Table) → Sound F T → Sound F (round F.states F.steps T)
round_sound F T = steps_sound F F.states F.steps (λ x m. m) T

begun_sound : (V : ℕ) (F : Family) → Sound F (reach_begun V F.states)
begun_sound V F s t v h =
    let a = and_parts _ _ h in
    let b = and_parts _ _ a.1 in
    subst (λ (k : ℕ). Silently (machine F v) s k) (eqb-true s t b.0) stays

-- where a round adds nothing, no silent step leads on
closed_join : (x : Step) (i : ℕ) (T : Table) → joined x i T ≡ T → (v : ℕ) → T i x.from v ≡ true → x.held v ≡ true → T i x.to v ≡ true
closed_join x i T e v p q =
    less_same e i x.to v (or_right _ _ (and_from _ _ (and_from _ _ (eq-eqb i i refl) (eq-eqb x.to x.to refl)) (and_from _ _ p q)))

closed_pass : (x : Step) (n : ℕ) (T : Table) → passed x n T ≡ T → (i v : ℕ) → i < n → T i x.from v ≡ true → x.held v ≡ true → T i x.to v ≡ true
closed_pass x zero T e i v l = absurd (omega arith)
closed_pass x (suc n) T e i v l =
    let first : passed x n T ≡ T = squeezed (passed_more x n T) (λ s t w h. less_same e s t w (joined_more x n (passed x n T) s t w h)) in
    let then : joined x n T ≡ T = subst (λ (U : Table). joined x n U ≡ T) first e in
    elim (cases_eq i n) [
      | inl p ↦ subst (λ (k : ℕ). T k x.from v ≡ true → x.held v ≡ true → T k x.to v ≡ true) (sym p) (closed_join x n T then v)
      | inr p ↦ closed_pass x n T first i v (omega arith)
    ]

closed_step : (n : ℕ) (x : Step) (T : Table) → stepped n x T ≡ T → x.action ≡ silence → passed x n T ≡ T
closed_step n x T e quiet = sym (cond-true (eqb x.action silence) (passed x n T) T (eq-eqb _ _ quiet)) ∙ e

closed_round : (n : ℕ) {x : Step} {xs : List Step} (T : Table) → Memᴰ x xs → round n xs T ≡ T → x.action ≡ silence →
    (i v : ℕ) → i < n → T i x.from v ≡ true → x.held v ≡ true → T i x.to v ≡ true
closed_round n {x} T (Memᴰ.head {x = y} {xs = xs} p) e quiet =
    let first : stepped n y T ≡ T = squeezed (stepped_more n y T) (λ s t v h. less_same e s t v (round_more n xs (stepped n y T) s t v h)) in
    closed_pass x n T (closed_step n x T (subst (λ (z : Step). stepped n z T ≡ T) (sym p) first) quiet)
closed_round n T (Memᴰ.tail {x = y} {xs = xs} m) e quiet =
    let first : stepped n y T ≡ T = squeezed (stepped_more n y T) (λ s t v h. less_same e s t v (round_more n xs (stepped n y T) s t v h)) in
    closed_round n T m (subst (λ (U : Table). round n xs U ≡ T) first e) quiet

-- every silent way is found
module _ (V : ℕ) (F : Family) (T : Table) (still : round F.states F.steps T ≡ T) (start : Less (reach_begun V F.states) T) where
  complete : {v s t : ℕ} → s < F.states → v < V → Silently (machine F v) s t → T s t v ≡ true
  complete {v} {s} {t} l k stays =
      start s s v (and_from _ _ (and_from _ _ (lt-ltb s F.states l) (lt-ltb s F.states l)) (and_from _ _ (eq-eqb s s refl) (lt-ltb v V k)))
  complete {v} {s} {t} l k (goes {r = r} p g) =
      let m = goes_step v r silence t F.steps g in
      let x = m.step in
      let here : T s x.from v ≡ true = subst (λ (j : ℕ). T s j v ≡ true) (sym m.leaves) (complete l k p) in
      subst (λ (j : ℕ). T s j v ≡ true) m.enters (closed_round F.states T m.listed still m.does s v l here m.holds)

  -- so where a round adds nothing, the table is the reach
  settled_reaches : Sound F T → Reaches V F T
  settled_reaches sound s t v ls lt lv = (sound s t v, complete ls lv)

-- how many variants are still missing
module _ (V n : ℕ) where
  abbrev pub missing : Table → ℕ
  missing T = removed V n n (λ _ _ _. true) T

  gained : (T U : Table) → Less T U → removed V n n U T + missing U ≡ missing T
  gained T U less =
      sum_adds n _ _ _ (λ s _. sum_adds n _ _ _ (λ t _. gone_adds V (λ _. true) (U s t) (T s t) (λ v. less s t v) (λ v _. refl)))

  -- U has nothing outside the states and the kind
  abbrev pub Inside : Table → Type 0
  Inside U = (s t v : ℕ) → U s t v ≡ true → (s < n) × (t < n) × (v < V)

  none_gained : (T U : Table) → Inside U → removed V n n U T ≡ 0 → Less U T
  none_gained T U inside e s t v h =
      let k = inside s t v h in
      let z = card_none V _ (sum_none n _ (sum_none n _ e s k.0) t k.1) v k.2 in
      elim (cases_Bool (T s t v)) [
        | inl p ↦ p
        | inr p ↦ absurd (both_ways (U s t v && not (T s t v)) z (and_from _ _ h (ap not p)))
      ]

  -- a larger table misses less
  pub missing_falls : (T U : Table) → Less T U → Inside U → (U ≡ T → ⊥) → missing U < missing T
  missing_falls T U less inside new =
      let g = gained T U less in
      elim (cases_eq (removed V n n U T) 0) [
        | inl e ↦ absurd (new (squeezed less (none_gained T U inside e)))
        | inr ne ↦ omega arith
      ]

  missing_bound : (T : Table) → missing T ≤ n * (n * V)
  missing_bound T = sum_bound n (n * V) _ (λ s _. sum_bound n V _ (λ t _. card_le V _))

-- one more step of a round
pub round_push : (n : ℕ) (xs : List Step) (x : Step) (T : Table) → round n (xs ++ x ∷ []) T ≡ stepped n x (round n xs T)
round_push n [] x T = refl
round_push n (y ∷ ys) x T = round_push n ys x (stepped n y T)

-- two growths in a row add nothing exactly if neither does
pub still_both : (a b : Bool) {T U W : Table} → Less T U → Less U W → Decides a (U ≡ T) → Decides b (W ≡ U) → Decides (a && b) (W ≡ T)
still_both a b {T} {U} {W} p q d e = (
  λ h. let k = and_parts _ _ h in e.0 k.1 ∙ d.0 k.0,
  λ h.
      let first : U ≡ T = squeezed p (λ s t v k. less_same h s t v (q s t v k)) in
      and_from _ _ (d.1 first) (e.1 (h ∙ sym first)),
)

-- rounds from the first on have led to T, and none was the last
pub record Going (V : ℕ) (F : Family) (T : Table) : Type 0 where
  pub start : Less (reach_begun V F.states) T
  pub sound : Sound F T

-- r of them
pub record Counted (V : ℕ) (F : Family) (r : ℕ) (T : Table) : Type 0 where
  pub count : (q : ℕ) (U : Table) → Rounds F.states F.steps T q U → Rounds F.states F.steps (reach_begun V F.states) (r + q) U
  pub few : r + missing V F.states T ≤ F.states * (F.states * V)

module _ (V : ℕ) (F : Family) where
  pub going_none : Going V F (reach_begun V F.states)
  going_none = record { start = λ s t v h. h; sound = begun_sound V F }

  pub counted_none : Counted V F 0 (reach_begun V F.states)
  counted_none =
      record {
        count = λ q U h. subst (λ (k : ℕ). Rounds F.states F.steps (reach_begun V F.states) k U) {x = q} {y = 0 + q} (omega arith) h;
        few = omega (arith, missing_bound V F.states (reach_begun V F.states));
      }

  module _ (T U : Table) (e : U ≡ round F.states F.steps T) where
    less : Less T U
    less = subst (Less T) (sym e) (round_more F.states F.steps T)

    pub round_falls : Inside V F.states U → (U ≡ T → ⊥) → missing V F.states U < missing V F.states T
    round_falls inside new = missing_falls V F.states T U less inside new

    pub going_more : Going V F T → Going V F U
    going_more going =
        record {
          start = λ s t v h. less s t v (going.start s t v h);
          sound = subst (Sound F) (sym e) (round_sound F T going.sound);
        }

    pub counted_more : (r : ℕ) → Inside V F.states U → (U ≡ T → ⊥) → Counted V F r T → Counted V F (r + 1) U
    counted_more r inside new counted =
        let falls = round_falls inside new in
        let few = counted.few in
        record {
          count = λ q W h.
              subst (λ (k : ℕ). Rounds F.states F.steps (reach_begun V F.states) k W) {x = r + suc q} {y = (r + 1) + q} (omega arith)
              (counted.count (suc q) W (more (λ k. new (e ∙ k)) (subst (λ (X : Table). Rounds F.states F.steps X q W) e h)));
          few = omega arith;
        }

    -- the last round
    pub going_last : U ≡ T → Going V F T → Reaches V F U
    going_last same going = subst (Reaches V F) (sym same) (settled_reaches V F T (sym e ∙ same) going.start going.sound)

    pub counted_last : (r : ℕ) → U ≡ T → Counted V F r T → Rounds F.states F.steps (reach_begun V F.states) (r + 1) U
    counted_last r same counted =
        subst (Rounds F.states F.steps (reach_begun V F.states) (r + 1)) (sym same) (counted.count 1 T (last (sym e ∙ same)))
