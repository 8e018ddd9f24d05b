use Rattle.std.proofs.Common.{◌≡◌, ℕ, List, [], ◌∷◌, ◌++◌, codes}
use Rattle.std.specs.Fmt.{HasWritten, IsPlainFormatter}
use Rattle.theory.specs.Sets.{members}
use Rattle.masks.specs.Texts.{listed}
use Rattle.masks.specs.Words.{word}
use Rattle.masks.proofs.MaskDisplay.fmt.Given as goal

-- what stands between the numbers so far and a further one
abbrev separator_after : List ℕ → List ℕ
separator_after [] = []
separator_after (v ∷ rest) = codes ","

-- the brace and the numbers below v are written
abbrev pub invariant-loop-v : goal.invariant-loop-v
invariant-loop-v g l =
    (l.separator ≡ separator_after (members l.v-counter (word l.self.bits)))
    × (IsPlainFormatter l.fn.f
    → HasWritten g.W.Write.write_str_gives l.fn.f (codes "{" ++ listed (members l.v-counter (word l.self.bits))) l.f)
