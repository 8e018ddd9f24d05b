use Rattle.std.proofs.Common.{arith}
use Rattle.std.proofs.lemmas.Bool.{both_ways}
use Rattle.marking.specs.Marks.{kind_too_large, table_too_short, scratch_too_short, unlisted}
use Rattle.marking.proofs.checking.can_mark.Goals as goal

pub returns-then-size-gt-LIMIT : goal.returns-then-size-gt-LIMIT
returns-then-size-gt-LIMIT g c = kind_too_large (omega (arith, c.size.ensures))

pub returns-then-candidate-pairs : goal.returns-then-candidate-pairs
returns-then-candidate-pairs g c = table_too_short (omega (arith, c.size.ensures)) (omega (arith, c.pairs_with-pairs.ensures.value))

pub returns-then-scratch-both_places : goal.returns-then-scratch-both_places
returns-then-scratch-both_places g c = scratch_too_short (omega (arith, c.size.ensures)) (omega (arith, c.pairs_with-pairs.ensures.value)) (omega (arith, c.both_places.ensures))

pub returns-then-not-only_listed : goal.returns-then-not-only_listed
returns-then-not-only_listed g c =
    let told = rw c.pairs_with-pairs.ensures.value at c.only_listed.ensures in
    unlisted (omega (arith, c.size.ensures)) (omega (arith, c.pairs_with-pairs.ensures.value)) (omega (arith, c.both_places.ensures))
    (λ only. both_ways c.only_listed.result c.if-not-only_listed.true (told.1 only))
