-- Both reaches in one scratch.
use Rattle.std.proofs.Common.{◌≡◌, ℕ, ◌+◌, ◌-◌, ◌≤◌, List, ◌++◌, length, take, drop, sym, ap, ◌∙◌, subst, arith, length-append, length-drop, length-take-le, drop-drop, drop_at}
use borrow.Rule.Slice.PartMut.{put_mid}
use Rattle.std.proofs.lemmas.List.{drop_all, append-nil, take_rest}
use Rattle.std.proofs.lemmas.Slice.{take-put_mid_below}
use Rattle.theory.specs.Tables.{Table}
use Rattle.theory.specs.Reach.{Reaches}
use Rattle.variants.specs.declared.VariantSet.{Ghosts as Kind}
use Rattle.families.specs.declared.Family.{Family}
use Rattle.families.specs.Drafts.{model}
use Rattle.tables.proofs.Places.{grid_front}
use Rattle.reaching.specs.Reaches.{reach_places, reach_of, Reached}
use Rattle.marking.specs.Marks.{both_places, ReachedBoth}

module _ {S : Type 0} (K : Kind S) (L R : Family S) (before first second : List S) (a : ℕ) (is : a ≡ reach_places K L)
    (room : both_places K L R ≤ length before) (m n : ℕ) (left : Reached K L before first m) (right : Reached K R (take (length first - a) (drop a first)) second n) where
  abbrev after : List S
  after = put_mid a (length first - a) first second

  within : a ≤ length first
  within = omega (arith, left.size)

  part : take (length first - a) (drop a first) ≡ drop (reach_places K L) first
  part = take_rest first a ∙ ap (λ (k : ℕ). drop k first) is

  parts : after ≡ take a first ++ second
  parts =
      let rest : length (drop a first) ≤ length first - a = simp length-drop (omega arith) in
      ap (λ (xs : List S). take a first ++ (second ++ xs)) (drop_all (length first - a) (drop a first) rest)
      ∙ ap (λ (xs : List S). take a first ++ xs) (append-nil second)

  behind : drop (reach_places K L) after ≡ second
  behind = ap (λ (k : ℕ). drop k after) (sym is) ∙ ap (drop a) parts ∙ drop_at (take a first) second a (length-take-le a first within)

  same_left : reach_of K L after ≡ reach_of K L first
  same_left =
      grid_front K (model K L).states (model K L).states a after first (omega (arith, is))
      (take-put_mid_below a (length first - a) first second a (omega arith) within)

  second_size : length second ≡ length first - a
  second_size = right.size ∙ ap length part ∙ length-drop (reach_places K L) first ∙ ap (λ (k : ℕ). length first - k) (sym is)

  pub scratch_reached : ReachedBoth K L R before (put_mid a (length first - a) first second)
  scratch_reached =
      record {
        left_reach = subst (λ (T : Table). Reaches K.variants (model K L) T) (sym same_left) left.exact;
        right_reach = subst (λ (xs : List S). Reaches K.variants (model K R) (reach_of K R xs)) (sym behind) right.exact;
        size =
            let both : length after ≡ length (take a first) + length second = ap length parts ∙ length-append (take a first) second in
            omega (arith, both, length-take-le a first within, second_size, within, left.size);
        beyond =
            let l = reach_places K L in
            let r = reach_places K R in
            sym (drop-drop r l after) ∙ ap (drop r) behind ∙ right.beyond ∙ ap (drop r) (part ∙ left.beyond) ∙ drop-drop r l before;
      }
