use Rattle.std.proofs.Common.{◌≡◌, ◌≤◌, Bool, not, ◌&&◌, sym, ap, ◌∙◌, arith, rules}
use Rattle.theory.specs.Sets.{gone}
use Rattle.theory.proofs.Cards.{card_same, card_le}
use Rattle.sweeping.proofs.Steps.{spared, removed_by, count_exact}
use Rattle.sweeping.proofs.judging.struck.Goals as goal

pub returns : goal.returns
returns g c =
    let h = g.S.VariantSet.holds in
    let V = g.S.VariantSet.variants in
    let k = c.args.judged.kept in
    let m = c.without-missing.result in
    let left = c.without.result in
    record {
      kept = λ v. search (rules, spared);
      strikes = λ narrow few.
          let counted : c.count.result ≡ gone V (h k) (h left) =
          c.count.ensures
          ∙ count_exact V (h c.both-struck.result) narrow
          ∙ card_same V _ _ (λ v _.
          c.both-struck.ensures v ∙ removed_by (h k v) (h m v) ∙ ap (λ (b : Bool). h k v && not b) (sym (c.without.ensures v))) in
          let below : gone V (h k) (h left) ≤ V = card_le V _ in
          omega arith;
    }
