use Rattle.histories.proofs.playing.take.Goals as goal

pub returns-in-Settled : goal.returns-in-Settled
returns-in-Settled g c = rw c.in-Settled.is (c.take_settled.ensures c.args.left.now c.args.right.now)
