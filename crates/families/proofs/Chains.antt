-- The first place that has a key, and how the index is built from the end of the list.
use Rattle.std.proofs.Common.{◌≡◌, ℕ, zero, suc, ◌+◌, ◌<◌, ◌≤◌, Bool, true, false, cond, eqb, ltb, List, [], ◌∷◌, map, length, get_or, drop, set, replicate, Some, None, Option, sym, refl, ap, ◌∙◌, subst, inl, inr, arith, length-set}
use lib.ListN.{length-replicate}
use Rattle.std.specs.List.{AllWithin}
use Rattle.std.proofs.lemmas.List.{get_or-set_same, get_or-set_other, get_or-map, get_or-replicate, length-map, drop_more, drop_all}
use Rattle.std.proofs.lemmas.Bool.{cases_eq, cond-true, cond-false, eq-eqb, ne_eqb, lt-ltb, le-ltb}
use Rattle.families.specs.declared.parts.Step.{Step}
use Rattle.families.specs.declared.parts.Link.{Link}
use Rattle.families.specs.declared.parts.Index.{Index}
use Rattle.families.specs.Places.{sources, actions, ahead_of, first_from, place_below, leaving_from, silent_from, link_at, Indexes, Added}

-- a key that is nowhere has no place
absent : (key : ℕ) (keys : List ℕ) → ((j : ℕ) → j < length keys → get_or keys j 0 ≡ key → ⊥) → ahead_of key keys ≡ length keys
unfolding ahead_of
absent key [] h = refl
absent key (x ∷ xs) h =
    cond-false (eqb x key) 0 (suc (ahead_of key xs)) (ne_eqb x key (λ e. h 0 (omega arith) e))
    ∙ ap suc (absent key xs (λ j l e. h (suc j) (omega arith) e))

module _ (keys : List ℕ) (key : ℕ) where
  -- past the end there is none
  pub first_end : first_from keys key (length keys) ≡ length keys
  unfolding ahead_of
  first_end = ap (λ (xs : List ℕ). length keys + ahead_of key xs) (drop_all (length keys) keys (omega arith)) ∙ omega arith

  -- the place itself, or a later one
  first_more : (k : ℕ) → k < length keys → first_from keys key k ≡ cond (eqb (get_or keys k 0) key) k (first_from keys key (k + 1))
  unfolding ahead_of
  first_more k l = ap (λ (xs : List ℕ). k + ahead_of key xs) (drop_more keys k 0 l) ∙ either (eqb (get_or keys k 0) key)
    where
      either : (b : Bool) → k + cond b 0 (suc (ahead_of key (drop (k + 1) keys))) ≡ cond b k (first_from keys key (k + 1))
      either true = omega arith
      either false = omega arith

  pub first_here : (k : ℕ) → k < length keys → get_or keys k 0 ≡ key → first_from keys key k ≡ k
  first_here k l e = first_more k l ∙ cond-true (eqb (get_or keys k 0) key) k (first_from keys key (k + 1)) (eq-eqb _ _ e)

  pub first_later : (k : ℕ) → k < length keys → (get_or keys k 0 ≡ key → ⊥) → first_from keys key k ≡ first_from keys key (k + 1)
  first_later k l ne = first_more k l ∙ cond-false (eqb (get_or keys k 0) key) k (first_from keys key (k + 1)) (ne_eqb _ _ ne)

  -- the first place that has the key, if there is one
  abbrev pub seek : ℕ → Option ℕ
  seek k = place_below (length keys) (first_from keys key k)

  pub seek_end : seek (length keys) ≡ None
  seek_end = cond-false (ltb (first_from keys key (length keys)) (length keys)) (Some (first_from keys key (length keys))) None (le-ltb _ _ (omega (arith, first_end)))

  pub seek_here : (k : ℕ) → k < length keys → get_or keys k 0 ≡ key → seek k ≡ Some k
  seek_here k l e = ap (place_below (length keys)) (first_here k l e) ∙ cond-true (ltb k (length keys)) (Some k) None (lt-ltb _ _ l)

  pub seek_later : (k : ℕ) → k < length keys → (get_or keys k 0 ≡ key → ⊥) → seek k ≡ seek (k + 1)
  seek_later k l ne = ap (place_below (length keys)) (first_later k l ne)

-- the arrays are as long as they were made
pub record Sized (index : Index) : Type 0 where
  pub first : length index.first ≡ 64
  pub links : length index.links ≡ 1024

-- an index of no steps
abbrev pub blank : Index
blank = record { first = replicate 64 None; silent = None; links = replicate 1024 (record { leaving = None; silent = None }) }

pub sized_none : Sized blank
sized_none = record { first = length-replicate {A = Option ℕ} 64 None; links = length-replicate {A = Link} 1024 (record { leaving = None; silent = None }) }

pub sized_more : (index index' : Index) (k s a : ℕ) → Added index k s a index' → Sized index → Sized index'
sized_more index index' k s a added sized =
    record { first = ap length added.first ∙ (simp length-set) ∙ sized.first; links = ap length added.links ∙ (simp length-set) ∙ sized.links }

-- what an array has after one write
module _ {A : Type 0} (xs ys : List A) (i : ℕ) (x d : A) (j : ℕ) (e : ys ≡ set xs i x) where
  written : i < length xs → j ≡ i → get_or ys j d ≡ x
  written l same = ap (λ (zs : List A). get_or zs j d) e ∙ ap (λ (n : ℕ). get_or (set xs i x) n d) same ∙ get_or-set_same xs i x d l

  unwritten : (j ≡ i → ⊥) → get_or ys j d ≡ get_or xs j d
  unwritten ne = ap (λ (zs : List A). get_or zs j d) e ∙ get_or-set_other xs i j x d ne

module _ {S : Type 0} (xs : List (Step S)) where
  -- with as many keys as steps, the first place is one of the steps'
  pub seek_among : (keys : List ℕ) (key k : ℕ) → length keys ≡ length xs → place_below (length xs) (first_from keys key k) ≡ seek keys key k
  seek_among keys key k long = ap (λ (n : ℕ). place_below n (first_from keys key k)) (sym long)

  -- nothing was added yet
  pub index_none : Indexes xs (length xs) blank
  index_none =
      record {
        first_leaving = λ s l. get_or-replicate 64 s None None l ∙ none (sources xs) s (length-map xs (λ x. x.from));
        next_leaving = λ j l m. absurd (omega arith);
        first_silent = none (actions xs) 0 (length-map xs (λ x. x.action));
        next_silent = λ j l m. absurd (omega arith);
      }
    where
      none : (keys : List ℕ) (key : ℕ) → length keys ≡ length xs → None ≡ place_below (length xs) (first_from keys key (length xs))
      none keys key long = subst (λ (n : ℕ). None ≡ place_below n (first_from keys key n)) long (sym (seek_end keys key))

  -- the step at place k is added
  module _ (k : ℕ) (index index' : Index) (x : Step S) (l : k < length xs) (read : x ≡ get_or xs k x) (few : x.from < 64) (room : length xs ≤ 1024) (sized : Sized index)
      (added : Added index k x.from x.action index') (before : Indexes xs (k + 1) index) where
    -- whatever the key of a step is
    module _ (key_of : Step S → ℕ) (key : ℕ) where
      long : length (map key_of xs) ≡ length xs
      long = length-map xs key_of

      key_here : get_or (map key_of xs) k 0 ≡ key_of x
      key_here = get_or-map key_of xs k x 0 l ∙ ap key_of (sym read)

      found : (key_of x ≡ key) → Some k ≡ place_below (length xs) (first_from (map key_of xs) key k)
      found e = sym (seek_among (map key_of xs) key k long ∙ seek_here (map key_of xs) key k (omega (arith, long)) (key_here ∙ e))

      passed : (key_of x ≡ key → ⊥) → place_below (length xs) (first_from (map key_of xs) key (k + 1)) ≡ place_below (length xs) (first_from (map key_of xs) key k)
      passed ne =
          seek_among (map key_of xs) key (k + 1) long
          ∙ sym (seek_later (map key_of xs) key k (omega (arith, long)) (λ e. ne (sym key_here ∙ e)))
          ∙ sym (seek_among (map key_of xs) key k long)

    link : Link
    link = record { leaving = get_or index.first x.from None; silent = index.silent }

    source : get_or (sources xs) k 0 ≡ x.from
    source = key_here (λ y. y.from) 0

    first_leaving : (s : ℕ) → s < 64 → get_or index'.first s None ≡ leaving_from xs s k
    first_leaving s m = elim (cases_eq s x.from) [
      | inl e ↦ written index.first index'.first x.from (Some k) None s added.first (omega (arith, sized.first)) e ∙ found (λ y. y.from) s (sym e)
      | inr ne ↦ unwritten index.first index'.first x.from (Some k) None s added.first ne ∙ before.first_leaving s m ∙ passed (λ y. y.from) s (λ e. ne (sym e))
    ]

    -- the links of the places from k on
    linked : (j : ℕ) → (j ≡ k → link_at index'.links j ≡ link) × ((j ≡ k → ⊥) → link_at index'.links j ≡ link_at index.links j)
    unfolding link
    linked j = (
      written index.links index'.links k (record { leaving = get_or index.first x.from None; silent = index.silent }) (record { leaving = None; silent = None }) j added.links (omega (arith, sized.links)),
      unwritten index.links index'.links k (record { leaving = get_or index.first x.from None; silent = index.silent }) (record { leaving = None; silent = None }) j added.links,
    )

    next_leaving : (j : ℕ) → k ≤ j → j < length xs → (link_at index'.links j).leaving ≡ leaving_from xs (get_or (sources xs) j 0) (j + 1)
    unfolding link
    next_leaving j m n = elim (cases_eq j k) [
      | inl e ↦
          ap (λ (z : Link). z.leaving) ((linked j).0 e)
          ∙ before.first_leaving x.from few
          ∙ ap (λ (s : ℕ). leaving_from xs s (k + 1)) (sym source)
          ∙ ap (λ (i : ℕ). leaving_from xs (get_or (sources xs) i 0) (i + 1)) (sym e)
      | inr ne ↦ ap (λ (z : Link). z.leaving) ((linked j).1 ne) ∙ before.next_leaving j (omega arith) n
    ]

    first_silent : index'.silent ≡ silent_from xs k
    first_silent = elim (cases_eq x.action 0) [
      | inl e ↦ added.silent ∙ cond-true (eqb x.action 0) (Some k) index.silent (eq-eqb _ _ e) ∙ found (λ y. y.action) 0 e
      | inr ne ↦ added.silent ∙ cond-false (eqb x.action 0) (Some k) index.silent (ne_eqb _ _ ne) ∙ before.first_silent ∙ passed (λ y. y.action) 0 ne
    ]

    next_silent : (j : ℕ) → k ≤ j → j < length xs → (link_at index'.links j).silent ≡ silent_from xs (j + 1)
    unfolding link
    next_silent j m n = elim (cases_eq j k) [
      | inl e ↦ ap (λ (z : Link). z.silent) ((linked j).0 e) ∙ before.first_silent ∙ ap (λ (i : ℕ). silent_from xs (i + 1)) (sym e)
      | inr ne ↦ ap (λ (z : Link). z.silent) ((linked j).1 ne) ∙ before.next_silent j (omega arith) n
    ]

    pub index_more : Indexes xs k index'
    index_more = record { first_leaving = first_leaving; next_leaving = next_leaving; first_silent = first_silent; next_silent = next_silent }

-- no step leaves a state that is none
pub leaving_none : {S : Type 0} (xs : List (Step S)) (s n : ℕ) → AllWithin (λ x. x.from < n) xs 0 (length xs) → n ≤ s → None ≡ leaving_from xs s 0
leaving_none {S} xs s n inside l =
    sym (cond-false (ltb (first_from (sources xs) s 0) (length xs)) (Some (first_from (sources xs) s 0)) None (le-ltb _ _ past))
  where
    never : (j : ℕ) → j < length (sources xs) → get_or (sources xs) j 0 ≡ s → ⊥
    never j m e = go xs j (omega (arith, length-map xs (λ (x : Step S). x.from))) inside e
      where
        go : (ys : List (Step S)) (i : ℕ) → i < length ys → AllWithin (λ x. x.from < n) ys 0 (length ys) → get_or (sources ys) i 0 ≡ s → ⊥
        go [] i k h q = omega arith
        go (y ∷ ys) zero k h q = omega (arith, h 0 y (omega arith) k)
        go (y ∷ ys) (suc i) k h q = go ys i (omega arith) (λ p d a b. h (suc p) d (omega arith) (omega arith)) q

    past : length xs ≤ first_from (sources xs) s 0
    past = omega (arith, absent s (sources xs) never, length-map xs (λ (x : Step S). x.from))
