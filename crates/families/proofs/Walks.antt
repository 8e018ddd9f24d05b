-- The steps that are sought, from one to the next.
use Rattle.std.proofs.Common.{◌≡◌, ℕ, zero, suc, ◌+◌, ◌-◌, ◌<◌, ◌≤◌, Bool, true, false, eqb, List, [], ◌∷◌, map, length, get_or, drop, Some, None, Option, sym, refl, ap, ◌∙◌, subst, inl, inr, arith}
use Rattle.std.proofs.lemmas.List.{get_or-map, length-map, drop_more, drop_all}
use Rattle.std.proofs.lemmas.Bool.{cases_eq, cond-true, cond-false, eq-eqb, ne_eqb}
use Rattle.families.specs.declared.parts.Step.{Step}
use Rattle.families.specs.declared.seeking.Sought.{Sought}
use Rattle.families.specs.declared.seeking.Sought.TheVariants.{Leaving, Silent}
use Rattle.families.specs.Places.{first_from, place_below}
use Rattle.families.specs.Seeking.{is_sought, sought_from, numbered, numbered_from}
use Rattle.families.proofs.Chains.{seek_end, seek_here, seek_later, seek_among}

read_at : {S : Type 0} (xs : List (Step S)) (j : ℕ) → j < length xs → (x : Step S) × (x ≡ get_or xs j x)
read_at [] j l = absurd (omega arith)
read_at (x ∷ xs) zero l = (x, refl)
read_at (x ∷ xs) (suc j) l = read_at xs j (omega arith)

-- a place that is one of the steps', and whose step is sought
pub record Comes {S : Type 0} (q : Sought) (xs : List (Step S)) (p : ℕ) : Type 0 where
  pub below : p < length xs
  pub is : (x : Step S) → x ≡ get_or xs p x → is_sought q x ≡ true

module _ {S : Type 0} (q : Sought) (xs : List (Step S)) where
  module _ (k : ℕ) (x : Step S) (l : k < length xs) (read : x ≡ get_or xs k x) where
    front : numbered q (drop k xs) k ≡ numbered q (x ∷ drop (k + 1) xs) k
    front = ap (λ (ys : List (Step S)). numbered q ys k) (drop_more xs k x l ∙ ap (λ (y : Step S). y ∷ drop (k + 1) xs) (sym read))

    pub numbered_here : is_sought q x ≡ true → numbered q (drop k xs) k ≡ (k, x) ∷ numbered q (drop (k + 1) xs) (k + 1)
    unfolding numbered
    numbered_here e = front ∙ cond-true (is_sought q x) ((k, x) ∷ numbered q (drop (k + 1) xs) (k + 1)) (numbered q (drop (k + 1) xs) (k + 1)) e

    pub numbered_later : is_sought q x ≡ false → numbered q (drop k xs) k ≡ numbered q (drop (k + 1) xs) (k + 1)
    unfolding numbered
    numbered_later e = front ∙ cond-false (is_sought q x) ((k, x) ∷ numbered q (drop (k + 1) xs) (k + 1)) (numbered q (drop (k + 1) xs) (k + 1)) e

  pub numbered_end : (k : ℕ) → length xs ≤ k → numbered q (drop k xs) k ≡ []
  unfolding numbered
  numbered_end k l = ap (λ (ys : List (Step S)). numbered q ys k) (drop_all k xs l)

module _ {S : Type 0} (q : Sought) (key_of : Step S → ℕ) (key : ℕ) (tests : (x : Step S) → is_sought q x ≡ eqb (key_of x) key) (xs : List (Step S)) where
  -- the first place from k on
  abbrev next : ℕ → Option ℕ
  next k = place_below (length xs) (first_from (map key_of xs) key k)

  long : length (map key_of xs) ≡ length xs
  long = length-map xs key_of

  next_end : next (length xs) ≡ None
  next_end = subst (λ (n : ℕ). place_below n (first_from (map key_of xs) key n) ≡ None) long (seek_end (map key_of xs) key)

  module _ (k : ℕ) (x : Step S) (l : k < length xs) (read : x ≡ get_or xs k x) where
    key_at : get_or (map key_of xs) k 0 ≡ key_of x
    key_at = get_or-map key_of xs k x 0 l ∙ ap key_of (sym read)

    next_here : key_of x ≡ key → next k ≡ Some k
    next_here e = seek_among xs (map key_of xs) key k long ∙ seek_here (map key_of xs) key k (omega (arith, long)) (key_at ∙ e)

    next_later : (key_of x ≡ key → ⊥) → next k ≡ next (k + 1)
    next_later ne =
        seek_among xs (map key_of xs) key k long
        ∙ seek_later (map key_of xs) key k (omega (arith, long)) (λ e. ne (sym key_at ∙ e))
        ∙ sym (seek_among xs (map key_of xs) key (k + 1) long)

  along_keys : (n k : ℕ) → k + n ≡ length xs → numbered q (drop k xs) k ≡ numbered_from q xs (next k)
  along_keys zero k e =
      let end : k ≡ length xs = omega arith in
      numbered_end q xs k (omega arith) ∙ ap (numbered_from q xs) (sym (ap next end ∙ next_end))
  along_keys (suc n) k e =
      let l : k < length xs = omega arith in
      let x = read_at xs k l in
      elim (cases_eq (key_of x.0) key) [
        | inl same ↦ ap (numbered_from q xs) (sym (next_here k x.0 l x.1 same))
        | inr other ↦
            numbered_later q xs k x.0 l x.1 (tests x.0 ∙ ne_eqb _ _ other)
            ∙ along_keys n (k + 1) (omega arith)
            ∙ ap (numbered_from q xs) (sym (next_later k x.0 l x.1 other))
      ]

  come : (n k p : ℕ) → k + n ≡ length xs → next k ≡ Some p → Comes q xs p
  come zero k p e is = let z : ◌≡◌ {A = Option ℕ} None (Some p) = sym (ap next (omega arith) ∙ next_end) ∙ is in absurd (cc z)
  come (suc n) k p e is =
      let l : k < length xs = omega arith in
      let x = read_at xs k l in
      elim (cases_eq (key_of x.0) key) [
        | inl same ↦ subst (Comes q xs) (found k (next_here k x.0 l x.1 same) is) (record { below = l; is = λ y read. tests y ∙ eq-eqb _ _ (sym (key_at k y l read) ∙ key_at k x.0 l x.1 ∙ same) })
        | inr other ↦ come n (k + 1) p (omega arith) (sym (next_later k x.0 l x.1 other) ∙ is)
      ]
    where
      found : (j : ℕ) → next j ≡ Some j → next j ≡ Some p → j ≡ p
      found j a b = cc (a, b)

module _ {S : Type 0} (q : Sought) (xs : List (Step S)) where
  -- the steps from place k on that are sought are those from the first place on
  pub numbered_sought : (k : ℕ) → k ≤ length xs → numbered q (drop k xs) k ≡ numbered_from q xs (sought_from q xs k)
  numbered_sought k l = by q
    where
      by : (r : Sought) → numbered r (drop k xs) k ≡ numbered_from r xs (sought_from r xs k)
      by (Leaving s) = along_keys (Leaving s) (λ x. x.from) s (λ x. refl) xs (length xs - k) k (omega arith)
      by Silent = along_keys Silent (λ x. x.action) 0 (λ x. refl) xs (length xs - k) k (omega arith)

  -- the first place from k on is one of theirs
  pub comes : (k p : ℕ) → k ≤ length xs → sought_from q xs k ≡ Some p → Comes q xs p
  comes k p l = by q
    where
      by : (r : Sought) → sought_from r xs k ≡ Some p → Comes r xs p
      by (Leaving s) = come (Leaving s) (λ x. x.from) s (λ x. refl) xs (length xs - k) k p (omega arith)
      by Silent = come Silent (λ x. x.action) 0 (λ x. refl) xs (length xs - k) k p (omega arith)

-- A loop over the steps that are sought: those that it passes over change nothing, so that it comes to what all steps give.
module _ {S : Type 0} (q : Sought) (xs : List (Step S)) where
  -- P holds of the steps before some place, and those that are sought from there on are left
  pub record Walked (P : ℕ → Type 0) (left : List (ℕ × Step S)) : Type 0 where
    pub place : ℕ
    pub within : place ≤ length xs
    pub rest : left ≡ numbered q (drop place xs) place
    pub before : P place

  -- the step x at place p is sought; P holds of the steps before it, and those that are sought after it are left
  pub record Here (P : ℕ → Type 0) (p : ℕ) (x : Step S) (left : List (ℕ × Step S)) : Type 0 where
    pub below : p < length xs
    pub read : x ≡ get_or xs p x
    pub is : is_sought q x ≡ true
    pub there : P p
    pub rest : left ≡ numbered q (drop (p + 1) xs) (p + 1)

  pub walk_none : (P : ℕ → Type 0) (left : List (ℕ × Step S)) → left ≡ numbered q xs 0 → P 0 → Walked P left
  walk_none P left e h = record { place = 0; within = omega arith; rest = e; before = h }

  pub walk_more : (P R : ℕ → Type 0) (p : ℕ) (x : Step S) (left : List (ℕ × Step S)) → Here P p x left → R (p + 1) → Walked R left
  walk_more P R p x left here h = record { place = p + 1; within = omega (arith, here.below); rest = here.rest; before = h }

  -- steps that are not sought change nothing
  module _ (P : ℕ → Type 0) (pass : (j : ℕ) (x : Step S) → j < length xs → x ≡ get_or xs j x → is_sought q x ≡ false → P j → P (j + 1)) where
    here_from : (n k : ℕ) → k + n ≡ length xs → P k → (p : ℕ) (x : Step S) (left : List (ℕ × Step S)) → numbered q (drop k xs) k ≡ (p, x) ∷ left → Here P p x left
    here_from zero k e h p x left is = let none : ◌≡◌ {A = List (ℕ × Step S)} [] ((p, x) ∷ left) = sym (numbered_end q xs k (omega arith)) ∙ is in absurd (cc none)
    here_from (suc n) k e h p x left is =
        let l : k < length xs = omega arith in
        let y = read_at xs k l in
        by y.0 l y.1 (is_sought q y.0) refl (λ h' is'. here_from n (k + 1) (omega arith) h' p x left is')
      where
        found : (y : Step S) → is_sought q y ≡ true → k < length xs → y ≡ get_or xs k y → k ≡ p → y ≡ x → numbered q (drop (k + 1) xs) (k + 1) ≡ left → Here P p x left
        found y s l read at same rest =
            subst (λ (i : ℕ). Here P i x left) at
            (subst (λ (z : Step S). Here P k z left) same (record { below = l; read = read; is = s; there = h; rest = sym rest }))

        by : (y : Step S) → k < length xs → y ≡ get_or xs k y → (b : Bool) → is_sought q y ≡ b →
            (P (k + 1) → numbered q (drop (k + 1) xs) (k + 1) ≡ (p, x) ∷ left → Here P p x left) → Here P p x left
        by y l read true s later =
            let same : (k, y) ∷ numbered q (drop (k + 1) xs) (k + 1) ≡ (p, x) ∷ left = sym (numbered_here q xs k y l read s) ∙ is in
            let head : ◌≡◌ {A = ℕ × Step S} (k, y) (p, x) = cc same in
            found y s l read (ap (λ (w : ℕ × Step S). w.0) head) (ap (λ (w : ℕ × Step S). w.1) head) (cc same)
        by y l read false s later = later (pass k y l read s h) (sym (numbered_later q xs k y l read s) ∙ is)

    pub walk_here : (p : ℕ) (x : Step S) (left left' : List (ℕ × Step S)) → Walked P left → left ≡ (p, x) ∷ left' → Here P p x left'
    walk_here p x left left' walked e = here_from (length xs - walked.place) walked.place (omega (arith, walked.within)) walked.before p x left' (sym walked.rest ∙ e)

    all_from : (n k : ℕ) → k + n ≡ length xs → P k → numbered q (drop k xs) k ≡ [] → P (length xs)
    all_from zero k e h is = subst P (omega arith) h
    all_from (suc n) k e h is =
        let l : k < length xs = omega arith in
        let y = read_at xs k l in
        by y.0 l y.1 (is_sought q y.0) refl (λ h' is'. all_from n (k + 1) (omega arith) h' is')
      where
        by : (y : Step S) → k < length xs → y ≡ get_or xs k y → (b : Bool) → is_sought q y ≡ b → (P (k + 1) → numbered q (drop (k + 1) xs) (k + 1) ≡ [] → P (length xs)) → P (length xs)
        by y l read true s later = let none : ◌≡◌ {A = List (ℕ × Step S)} [] ((k, y) ∷ numbered q (drop (k + 1) xs) (k + 1)) = sym is ∙ numbered_here q xs k y l read s in absurd (cc none)
        by y l read false s later = later (pass k y l read s h) (sym (numbered_later q xs k y l read s) ∙ is)

    pub walk_all : (left : List (ℕ × Step S)) → Walked P left → left ≡ [] → P (length xs)
    walk_all left walked e = all_from (length xs - walked.place) walked.place (omega (arith, walked.within)) walked.before (sym walked.rest ∙ e)
