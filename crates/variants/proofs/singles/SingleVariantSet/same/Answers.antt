use Rattle.std.proofs.Common.{Bool, ◌&&◌, ◌==◌, ap}
use Rattle.std.proofs.lemmas.Bool.Decides.{Decides-at}
use Rattle.std.specs.Cmp.{booleans_Decides}
use Rattle.variants.proofs.singles.SingleVariantSet.same.Goals as goal

pub returns : goal.returns
returns c =
    let d = Decides-at _ _ c.eq.ensures (booleans_Decides c.args.self.held c.args.other.held) in
    (λ t v. ap (λ (x : Bool). (v == 0) && x) (d.0 t), λ e. d.1 (e 0))
