use Rattle.std.proofs.Common.{◌≡◌, ℕ, ◌-◌, List, length, take, drop, sym, ap, ◌∙◌, subst}
use Rattle.std.proofs.lemmas.List.{take_rest}
use Rattle.theory.specs.Reach.{Reaches}
use Rattle.families.specs.Drafts.{model}
use Rattle.reaching.specs.Reaches.{reach_places, reach_of}
use Rattle.marking.proofs.Candidates.{exact}
use Rattle.marking.proofs.Readings.{both_reached, marked_pairs}
use Rattle.marking.proofs.checking.mark.Goals as goal

pub returns : goal.returns
returns g c =
    let K = g.S.VariantSet in
    let L = c.args.left.now in
    let R = c.args.right.now in
    let E = c.reach_both.new.scratch in
    let a = c.places.result in
    let can = c.in_ok-can_mark.ensures in
    let both = c.in_ok-reach_both.ensures in
    let m = c.new-marking.result in
    let rest : take (length E - a) (drop a E) ≡ drop (reach_places K L) E = take_rest E a ∙ ap (λ (k : ℕ). drop k E) c.places.ensures.value in
    let of_right = subst (λ (xs : List _). Reaches K.variants (model K R) (reach_of K R xs)) (sym rest) both.right_reach in
    record {
      taken = can;
      answers = marked_pairs K m L R _ _ _ c.new-marking.ensures (K.holds c.args.list) _ (c.judge.ensures can.narrow (both_reached K m L R _ _ _ c.new-marking.ensures both.left_reach of_right));
      exact = exact K L R c.args.list c.args.candidate.now can.listed;
      scratch = both;
    }
