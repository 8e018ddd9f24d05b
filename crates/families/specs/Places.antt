-- Places in a list of keys: for each key the places that have it, ascending, each found from the one before.
use Rattle.std.specs.Prelude.{◌≡◌, ℕ, suc, ◌+◌, ◌<◌, ◌≤◌, cond, List, [], ◌∷◌, map, length, drop, Some, None, Option, ◌==◌, nat_lt, slice_index, slice_index_or, slice_set}
use Rattle.families.specs.declared.parts.Step.{Step}
use Rattle.families.specs.declared.parts.Link.{Link}
use Rattle.families.specs.declared.parts.Index.{Index}

-- the states that steps leave
abbrev pub sources : {S : Type 0} → List (Step S) → List ℕ
sources xs = map (λ x. x.from) xs

-- the actions of steps
abbrev pub actions : {S : Type 0} → List (Step S) → List ℕ
actions xs = map (λ x. x.action) xs

-- how many keys stand before the first that is the given one; all where none is
unfoldable pub ahead_of : ℕ → List ℕ → ℕ
ahead_of key [] = 0
ahead_of key (x ∷ xs) = cond (x == key) 0 (suc (ahead_of key xs))

-- the first place from k on that has the key; the number of keys where there is none
abbrev pub first_from : List ℕ → (key k : ℕ) → ℕ
first_from keys key k = k + ahead_of key (drop k keys)

-- a place of a list of n, or None where it is past the end
abbrev pub place_below : ℕ → ℕ → Option ℕ
place_below n p = cond (nat_lt p n) (Some p) None

module _ {S : Type 0} (xs : List (Step S)) where
  -- the first place from k on whose step leaves the state
  abbrev pub leaving_from : (state k : ℕ) → Option ℕ
  leaving_from state k = place_below (length xs) (first_from (sources xs) state k)

  -- the first silent place from k on
  abbrev pub silent_from : ℕ → Option ℕ
  silent_from k = place_below (length xs) (first_from (actions xs) 0 k)

-- what follows the place j; nothing past the end
abbrev pub link_at : List Link → ℕ → Link
link_at links j = slice_index_or links j (record { leaving = None; silent = None })

-- the index of the steps from place k on
module _ {S : Type 0} (xs : List (Step S)) (k : ℕ) (index : Index) where
  -- for each state the first place whose step leaves it
  abbrev pub FirstLeaving : Type 0
  FirstLeaving = (s : ℕ) → s < 64 → slice_index_or index.first s None ≡ leaving_from xs s k

  -- for each place the next one whose step leaves the same state
  abbrev pub NextLeaving : Type 0
  NextLeaving = (j : ℕ) → k ≤ j → j < length xs → (link_at index.links j).leaving ≡ leaving_from xs (slice_index (sources xs) j) (j + 1)

  -- the first silent place
  abbrev pub FirstSilent : Type 0
  FirstSilent = index.silent ≡ silent_from xs k

  -- for each place the next silent one
  abbrev pub NextSilent : Type 0
  NextSilent = (j : ℕ) → k ≤ j → j < length xs → (link_at index.links j).silent ≡ silent_from xs (j + 1)

  pub record Indexes : Type 0 where
    pub first_leaving : FirstLeaving
    pub next_leaving : NextLeaving
    pub first_silent : FirstSilent
    pub next_silent : NextSilent

-- the step at place k, which leaves s by action a, was put before all others
pub record Added (index : Index) (k s a : ℕ) (index' : Index) : Type 0 where
  pub first : index'.first ≡ slice_set index.first s (Some k)
  pub links : index'.links ≡ slice_set index.links k (record { leaving = slice_index_or index.first s None; silent = index.silent })
  pub silent : index'.silent ≡ cond (a == 0) (Some k) index.silent
