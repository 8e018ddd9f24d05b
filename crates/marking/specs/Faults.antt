-- What marking answers, as numbers and as text.
use Rattle.std.specs.Prelude.{ℕ, List, [], ◌∷◌, ◌++◌, Ok, Err, Result, codes, decimal}
use Rattle.theory.specs.Answers.{Answer, granted}
use Rattle.marking.specs.declared.Rule.{Rule}
use Rattle.marking.specs.declared.Rule.TheVariants.{Start, Left, Right}
use Rattle.marking.specs.declared.Fault.{Fault}

-- the number of a rule
abbrev pub rule_number : Rule → ℕ
rule_number Start = 1
rule_number Left = 2
rule_number Right = 3

-- a fault: the number of its rule, the pair, the step's place, and the variant
abbrev pub fault_answer : Fault → Answer
fault_answer f = granted (rule_number f.rule ∷ f.left ∷ f.right ∷ f.step ∷ f.variant ∷ [])

-- a fault in words
abbrev pub fault_text : Fault → List ℕ
fault_text f =
    codes "fault of kind " ++ decimal (rule_number f.rule) ++ codes " at pair (" ++ decimal f.left ++ codes "," ++ decimal f.right
    ++ codes "), step " ++ decimal f.step ++ codes ", variant " ++ decimal f.variant

-- what marking a candidate gives: it is accepted, or its first fault
abbrev pub Marked : Type 0
Marked = Result (Unit {0}) Fault

-- acceptance is granted with nothing more, else the fault is answered
abbrev pub marked_answer : Marked → Answer
marked_answer (Ok _) = granted []
marked_answer (Err f) = fault_answer f
