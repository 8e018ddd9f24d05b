-- The steps that are sought, each with its place in the list.
use Rattle.std.specs.Prelude.{◌≡◌, ℕ, ◌+◌, ◌<◌, ◌≤◌, Bool, true, cond, List, [], ◌∷◌, length, drop, Some, None, Option, ◌==◌, slice_index_or}
use Rattle.families.specs.declared.parts.Step.{Step}
use Rattle.families.specs.declared.parts.Link.{Link}
use Rattle.families.specs.declared.seeking.Sought.{Sought}
use Rattle.families.specs.declared.seeking.Sought.TheVariants.{Leaving, Silent}
use Rattle.families.specs.Places.{leaving_from, silent_from, link_at}

-- what follows a place along the chain of the steps that are sought
abbrev pub along : Sought → Link → Option ℕ
along (Leaving s) l = l.leaving
along Silent l = l.silent

-- whether a step is sought
abbrev pub is_sought : {S : Type 0} → Sought → Step S → Bool
is_sought (Leaving s) x = x.from == s
is_sought Silent x = x.action == 0

-- the first place from k on whose step is sought
abbrev pub sought_from : {S : Type 0} → Sought → List (Step S) → ℕ → Option ℕ
sought_from (Leaving s) xs k = leaving_from xs s k
sought_from Silent xs k = silent_from xs k

module _ {S : Type 0} (q : Sought) where
  -- the steps that are sought, the first of them all at place k
  unfoldable pub numbered : List (Step S) → ℕ → List (ℕ × Step S)
  numbered [] k = []
  numbered (x ∷ xs) k = cond (is_sought q x) ((k, x) ∷ numbered xs (k + 1)) (numbered xs (k + 1))

  -- those from a place on, if there is one
  abbrev pub numbered_from : List (Step S) → Option ℕ → List (ℕ × Step S)
  numbered_from xs None = []
  numbered_from xs (Some k) = numbered (drop k xs) k

  -- next is the first place of one from some place on, and the links lead from each to the one after it
  pub record Linked (xs : List (Step S)) (links : List Link) (next : Option ℕ) : Type 0 where
    pub room : length xs ≤ 1024
    pub first : (k : ℕ) × (k ≤ length xs) × (next ≡ sought_from q xs k)
    pub after : (j : ℕ) (x : Step S) → j < length xs → x ≡ slice_index_or xs j x → is_sought q x ≡ true → along q (link_at links j) ≡ sought_from q xs (j + 1)
