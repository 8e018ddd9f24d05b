use Rattle.std.proofs.Common.{Bool, ◌&&◌, ◌||◌, ap, ◌∙◌, ap₂}
use Rattle.families.specs.Models.{step_of}
use Rattle.tables.specs.Tables.{standing}
use Rattle.tables.proofs.Tables.{has_pair}
use Rattle.reaching.proofs.Joins.{written_joined, written_same}
use Rattle.reaching.proofs.Reaching.join.Goals as goal

pub returns-clause-joined : goal.returns-clause-joined
returns-clause-joined g c =
    let K = g.S.VariantSet in
    let T = c.args.self.now.table.now in
    let x = c.args.step in
    let w = c.put.ensures.writes (has_pair T c.args.i x.to c.args.self.now.fits c.requires.row c.requires.target) in
    w ∙ written_joined (standing K T) (step_of K x) c.args.i (K.holds c.either-new.result)
    (λ v. c.either-new.ensures v ∙ ap₂ (λ (a b : Bool). a || b) (c.at-old.ensures v) (c.both.ensures v ∙ ap (λ (b : Bool). b && K.holds x.set v) (c.at.ensures v)))

pub returns-clause-still : goal.returns-clause-still
returns-clause-still g c =
    let K = g.S.VariantSet in
    let T = c.args.self.now.table.now in
    let w = c.put.ensures.writes (has_pair T c.args.i c.args.step.to c.args.self.now.fits c.requires.row c.requires.target) in
    written_same (standing K T) (standing K c.put.new.self) c.args.i c.args.step.to (K.holds c.either-new.result) (K.holds c.at-old.result) c.same.result w c.at-old.ensures c.same.ensures
