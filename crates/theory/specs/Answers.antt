-- What a call answers, as numbers.
use Rattle.std.specs.Prelude.{ℕ, List, []}

-- 0 where the call was granted, else the number of its refusal, and the values it answers
pub record Answer : Type 0 where
  pub number : ℕ
  pub values : List ℕ

-- the call was granted, and answers the values
abbrev pub granted : List ℕ → Answer
granted values = record { number = 0; values = values }

-- the call was refused, by its number
abbrev pub refused : ℕ → Answer
refused number = record { number = number; values = [] }
