use Rattle.marking.proofs.Starts.{starts_clear, starts_faulty}
use Rattle.marking.proofs.Marking.start_fault.Goals as goal

pub returns-in-Some : goal.returns-in-Some
returns-in-Some g c few =
    starts_faulty g.S.VariantSet g.met.S.VariantSet.within c.args.self.now c.args.list c.start-left.result c.start-right.result
    c.start-left.ensures.value c.start-right.ensures.value c.at-paired.result c.without.result c.at-paired.ensures c.without.ensures few c.in-Some.variant c.in-Some.ensures

pub returns-in-None : goal.returns-in-None
returns-in-None g c few =
    starts_clear g.S.VariantSet g.met.S.VariantSet.within c.args.self.now c.args.list c.start-left.result c.start-right.result
    c.start-left.ensures.value c.start-right.ensures.value c.at-paired.result c.without.result c.at-paired.ensures c.without.ensures few c.in-None.ensures
