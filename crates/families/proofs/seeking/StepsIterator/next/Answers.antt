use Rattle.std.proofs.Common.{◌≡◌, ℕ, ◌+◌, ◌<◌, List, ◌∷◌, length, get_or, drop, Some, Option, sym, ap, ◌∙◌, arith}
use Rattle.families.specs.declared.parts.Step.{Step}
use Rattle.families.specs.declared.parts.Link.{Link}
use Rattle.families.specs.declared.seeking.Sought.{Sought}
use Rattle.families.specs.Places.{link_at}
use Rattle.families.specs.Seeking.{numbered, numbered_from, sought_from, along, Linked}
use Rattle.families.proofs.Walks.{comes, numbered_here, numbered_sought}
use Rattle.families.proofs.seeking.StepsIterator.next.Goals as goal

-- after the next one, if there is one, comes the first after its place
record Onward {S : Type 0} (q : Sought) (xs : List (Step S)) (p : ℕ) (x : Step S) (links : List Link) : Type 0 where
  below : p < length xs
  link : along q (link_at links p) ≡ sought_from q xs (p + 1)
  front : numbered q (drop p xs) p ≡ (p, x) ∷ numbered_from q xs (along q (link_at links p))

onward : {S : Type 0} (q : Sought) (xs : List (Step S)) (links : List Link) (next : Option ℕ) → Linked q xs links next → (p : ℕ) → next ≡ Some p → (x : Step S) → x ≡ get_or xs p x → Onward q xs p x links
onward q xs links next linked p e x read =
    let come = comes q xs linked.first.0 p linked.first.1 (sym linked.first.2 ∙ e) in
    let link = linked.after p x come.below read (come.is x read) in
    record {
      below = come.below;
      link = link;
      front = numbered_here q xs p x come.below read (come.is x read)
          ∙ ap (λ (ys : List (ℕ × Step _)). (p, x) ∷ ys) (numbered_sought q xs (p + 1) (omega (arith, come.below)) ∙ ap (numbered_from q xs) (sym link));
    }

pub invariant_of-self : goal.invariant_of-self
invariant_of-self g c =
    let it = c.self.inside in
    let p = c.from-place.result in
    let on = onward it.sought it.steps.now it.links.now it.next c.self.invariant p (c.in_ok-self.was ∙ ap Some (sym c.from-place.ensures)) c.index-self-place.result c.index-self-place.is in
    record { room = c.self.invariant.room; first = (p + 1, omega (arith, on.below), c.along-self-inside.ensures ∙ on.link); after = c.self.invariant.after }

pub returns-clause-steps : goal.returns-clause-steps
returns-clause-steps g c =
    let it = c.self.inside in
    let p = c.from-place.result in
    let x = c.index-self-place.result in
    let next : it.next ≡ Some p = c.in_ok-self.was ∙ ap Some (sym c.from-place.ensures) in
    let on = onward it.sought it.steps.now it.links.now it.next c.self.invariant p next x c.index-self-place.is in
    sym c.self.view_is
    ∙ ap (numbered_from it.sought it.steps.now) next
    ∙ on.front
    ∙ ap (λ (y : Step _). (p, y) ∷ numbered_from it.sought it.steps.now (along it.sought (link_at it.links.now p))) c.index-self-place.is
    ∙ ap (λ (o : Option ℕ). (p, get_or it.steps.now p x) ∷ numbered_from it.sought it.steps.now o) (sym c.along-self-inside.ensures)

pub returns-clause-goes : goal.returns-clause-goes
returns-clause-goes g c =
    let shorter = ap length (returns-clause-steps g c) in
    record { on = λ finite. (tt, finite, omega (arith, shorter)); keeps = tt; rests = λ _. tt }
