-- What the left steps leave of a pair.
use Rattle.std.proofs.Common.{◌≡◌, ℕ, ◌+◌, ◌≤◌, Bool, true, false, cond, not, ◌&&◌, ◌||◌, eqb, List, [], ◌∷◌, ◌++◌, map, sym, refl, ap, ◌∙◌, arith}
use Rattle.theory.specs.Sets.{Variants, card, gone}
use Rattle.theory.specs.Systems as theory
use Rattle.theory.specs.Tables.{Table}
use Rattle.theory.specs.Sweeps.{answered, applies, kept}
use Rattle.theory.proofs.Booleans.{and_true, and_assoc, and_first}
use Rattle.theory.proofs.Cards.{card_le, gone_same, gone_nothing, gone_adds}
use Rattle.variants.specs.declared.VariantSet.{Ghosts as Kind}
use Rattle.variants.specs.Sets.{capped}
use Rattle.families.specs.declared.parts.Step.{Step}
use Rattle.families.specs.declared.seeking.Sought.TheVariants.{Leaving}
use Rattle.families.specs.Models.{step_of}
use Rattle.families.specs.Seeking.{numbered}
use Rattle.sweeping.specs.declared.judging.Judged.{Judged}
use Rattle.sweeping.specs.Judging.{JudgedBy, JudgedFurther}

-- what a step that is held where h and followed where a spares of k, as it is computed
pub spared : (k h a : Bool) → (k && not (h && not a)) ≡ (k && (not h || a))
spared k true true = refl
spared k true false = refl
spared k false a = refl

-- and what it strikes
pub removed_by : (k m : Bool) → (k && m) ≡ (k && not (k && not m))
removed_by true true = refl
removed_by true false = refl
removed_by false m = refl

-- a set that holds the same has lost nothing
pub gone_none : (V : ℕ) (X Y : Variants) → ((v : ℕ) → Y v ≡ X v) → gone V X Y ≡ 0
gone_none V X Y e = gone_same V X X Y X (λ v. refl) e ∙ gone_nothing V X

-- a kind of at most 1024 variants counts its sets exactly
pub count_exact : (V : ℕ) (X : Variants) → V ≤ 1024 → capped (card V X) ≡ card V X
count_exact V X l = omega (arith, card_le V X)

module _ {S : Type 0} (K : Kind S) (held : Variants) where
  -- nothing struck yet
  pub judged_not : (x : S) → ((v : ℕ) → K.holds x v ≡ held v) → JudgedBy K held (λ v. true) (record { kept = x; strikes = 0 })
  judged_not x e = record { kept = λ v. e v ∙ sym (and_true (held v)); strikes = λ _. sym (gone_none K.variants held (K.holds x) e) }

  -- judged by two tests
  pub judged_more : (p q : Variants) (a b : Judged S) → JudgedBy K held p a → JudgedFurther K a q b → JudgedBy K held (λ v. p v && q v) b
  judged_more p q a b i e = record {
    kept = λ v. e.kept v ∙ ap (λ (x : Bool). x && q v) (i.kept v) ∙ sym (and_assoc (held v) (p v) (q v));
    strikes = λ narrow.
        let before : a.strikes ≡ gone K.variants held (K.holds a.kept) = i.strikes narrow in
        let below : gone K.variants held (K.holds a.kept) ≤ K.variants = card_le K.variants _ in
        let added = e.strikes narrow (omega arith) in
        let sum = gone_adds K.variants held (K.holds a.kept) (K.holds b.kept) (λ v h. and_first _ _ (sym (e.kept v) ∙ h)) (λ v h. and_first _ _ (sym (i.kept v) ∙ h)) in
        omega arith;
  }

  -- tests that pass the same variants judge the same
  pub judged_same : (p q : Variants) (a : Judged S) → ((v : ℕ) → p v ≡ q v) → JudgedBy K held p a → JudgedBy K held q a
  judged_same p q a e i = record { kept = λ v. i.kept v ∙ ap (λ (x : Bool). held v && x) (e v); strikes = i.strikes }

module _ {S : Type 0} (K : Kind S) (rs : List theory.Step) (T : Table) (s t v : ℕ) where
  -- the pair is kept by each of the steps, each with its place
  abbrev pub kept_by : List (ℕ × Step S) → Bool
  kept_by ps = kept (map (λ p. step_of K p.1) ps) rs T s t v

  -- one step more at the end
  pub kept_more : (ps : List (ℕ × Step S)) (p : ℕ × Step S) → kept_by (ps ++ p ∷ []) ≡ (kept_by ps && (not (applies s v (step_of K p.1)) || answered rs T t (step_of K p.1) v))
  kept_more [] p = and_true _
  kept_more (q ∷ ps) p = ap (λ (b : Bool). spares q && b) (kept_more ps p) ∙ and_assoc (spares q) (kept_by ps) (spares p)
    where
      spares : ℕ × Step S → Bool
      spares x = not (applies s v (step_of K x.1)) || answered rs T t (step_of K x.1) v

  -- a step from elsewhere keeps everything
  pub kept_leaving : (xs : List (Step S)) (k : ℕ) → kept_by (numbered (Leaving s) xs k) ≡ kept (map (step_of K) xs) rs T s t v
  unfolding numbered
  kept_leaving [] k = refl
  kept_leaving (x ∷ xs) k = either (eqb x.from s) refl (kept_leaving xs (k + 1))
    where
      later : List (ℕ × Step S)
      later = numbered (Leaving s) xs (k + 1)

      all : Bool
      all = kept (map (step_of K) xs) rs T s t v

      found : Bool
      found = answered rs T t (step_of K x) v

      either : (b : Bool) → eqb x.from s ≡ b → kept_by later ≡ all → kept_by (cond b ((k, x) ∷ later) later) ≡ ((not (applies s v (step_of K x)) || found) && all)
      either true e h = ap (λ (b : Bool). (not (applies s v (step_of K x)) || found) && b) h
      either false e h = h ∙ sym (ap (λ (b : Bool). (not (b && K.holds x.set v) || found) && all) e)
