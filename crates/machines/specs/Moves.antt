-- The moves of a machine, as the theory has them.
use Rattle.theory.specs.Systems as theory
use Rattle.families.specs.declared.parts.Step.{Step}
use Rattle.machines.specs.declared.moves.Move.{Move}

abbrev pub move_of : Move → theory.Move
move_of m = record { from = m.from; action = m.action; to = m.to }

-- a step without its set
abbrev pub bare_move : {S : Type 0} → Step S → Move
bare_move x = record { from = x.from; action = x.action; to = x.to }
