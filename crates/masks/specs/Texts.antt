-- What a word's set is as text.
use Rattle.std.specs.Prelude.{ℕ, List, [], ◌∷◌, ◌++◌, codes, decimal, flat_map}
use Rattle.theory.specs.Sets.{members}
use Rattle.masks.specs.Words.{word}

-- numbers in decimal, with a comma between
abbrev pub listed : List ℕ → List ℕ
listed [] = []
listed (v ∷ rest) = decimal v ++ flat_map (λ w. codes "," ++ decimal w) rest

-- the numbers held by the word n, ascending, in braces
abbrev pub set_text : ℕ → List ℕ
set_text n = codes "{" ++ listed (members 64 (word n)) ++ codes "}"
