use Rattle.std.proofs.Common.{ℕ, [], refl, ap}
use Rattle.families.proofs.Models.{labels_none}
use Rattle.families.proofs.Draft.open.Goals as goal

pub returns : goal.returns
returns g c =
    record {
      means = ap (λ (f : ℕ → ℕ). record { states = c.args.states; start = c.args.start; label = f; steps = [] }) (labels_none 64);
      memory = refl;
    }
