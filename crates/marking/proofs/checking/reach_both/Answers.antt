use Rattle.marking.proofs.Scratch.{scratch_reached}
use Rattle.marking.proofs.checking.reach_both.Goals as goal

pub returns : goal.returns
returns g c =
    scratch_reached g.S.VariantSet c.args.left.now c.args.right.now c.args.scratch.now c.reach.new.cells c.reach-2.new.cells
    c.places-first.result c.places-first.ensures.value c.requires c.in_ok-reach.field-0 c.in_ok-reach-2.field-0
    c.in_ok-reach.ensures c.in_ok-reach-2.ensures
