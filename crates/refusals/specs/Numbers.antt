-- The numbers of the refusals, and what calls answer.
use Rattle.std.specs.Prelude.{ℕ, List, [], Ok, Err, Result}
use Rattle.theory.specs.Answers.{Answer, granted, refused}
use Rattle.refusals.specs.declared.Refusal.{Refusal}
use Rattle.refusals.specs.declared.Refusal.TheVariants.{StatesOutOfRange, StartOutOfRange, OtherFamilies, NoSuchState, NoRoomForStep, KindTooLarge, TableTooShort, NoSuchVariant, NotSettled, ScratchTooShort, UnlistedVariant}

-- the number of a refusal
abbrev pub number_of : Refusal → ℕ
number_of StatesOutOfRange = 1
number_of StartOutOfRange = 2
number_of OtherFamilies = 3
number_of NoSuchState = 4
number_of NoRoomForStep = 5
number_of KindTooLarge = 6
number_of TableTooShort = 7
number_of NoSuchVariant = 8
number_of NotSettled = 9
number_of ScratchTooShort = 10
number_of UnlistedVariant = 11

-- what a call answers: granted with its values, or refused by its number
abbrev pub answer : {X : Type 0} → (X → List ℕ) → Result X Refusal → Answer
answer values (Ok x) = granted (values x)
answer values (Err e) = refused (number_of e)

-- what a call without values answers
abbrev pub plain : Result (Unit {0}) Refusal → Answer
plain = answer (λ _. [])
