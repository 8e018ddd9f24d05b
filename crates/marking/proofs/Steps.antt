-- The steps of one side at a position, one after the other.
use Rattle.std.proofs.Common.{◌≡◌, ℕ, zero, suc, ◌+◌, ◌<◌, ◌≤◌, false, IsTrue, List, [], ◌∷◌, length, get_or, drop, Some, None, Option, IfSome, IsSomeAnd, MatchOption, option_map, sym, refl, ap, ◌∙◌, subst, arith}
use denote.Param.Members.{Mut}
use Rattle.std.specs.Fn.{Called}
use Rattle.std.specs.Iterator.{YieldsFirst}
use Rattle.std.specs.Iterator.Runs.{SomeRun, CallKeepsClosure, AllItemsGive, IsFirstToGive}
use Rattle.std.proofs.iter.Rest.{run_of_first}
use Rattle.std.proofs.lemmas.List.{length-map, drop_more, drop_all}
use Rattle.std.proofs.lemmas.Bool.{both_ways, eq-eqb}
use Rattle.theory.specs.Marks.{At}
use Rattle.theory.specs.Judgements.{ReachRow, Judged, FollowedBelow, AllFollowed, FirstUnfollowed}
use Rattle.theory.proofs.Judgements.{followed_more, judged_elsewhere}
use Rattle.variants.specs.declared.VariantSet.{Ghosts as Kind}
use Rattle.variants.specs.Kinds.{Countable}
use Rattle.families.specs.declared.parts.Step.{Step}
use Rattle.families.specs.declared.Family.{Family}
use Rattle.families.specs.declared.seeking.Sought.TheVariants.{Leaving}
use Rattle.families.specs.Models.{step_of, held_steps}
use Rattle.families.specs.Drafts.{model}
use Rattle.families.specs.Seeking.{is_sought, numbered}
use Rattle.families.proofs.Models.{step_at}
use Rattle.families.proofs.Walks.{Walked, Here, walk_none, walk_more, walk_here, walk_all}
use Rattle.tables.specs.Cells.{cell}
use Rattle.following.specs.declared.Position.{Position}
use Rattle.following.specs.Views.{seen, follower_of}
use Rattle.marking.specs.declared.judging.Lapse.{Lapse}
use Rattle.marking.specs.Judgements.{Lapsed, LapsesAt}

module _ {S : Type 0} (K : Kind S) (p : Position S) (mover : Family S) where
  abbrev xs : List (Step S)
  xs = held_steps mover.parts

  -- what is judged, where the position's reach is the follower's from the other state
  abbrev pub Reached : Type 0 → Type 0
  Reached X = Countable K → p.other < (follower_of K p).states → ReachRow K.variants (follower_of K p) p.other (cell K p.reach.now) → X

  -- a step's judgement
  abbrev pub JudgedAt : Step S → Option ℕ → Type 0
  JudgedAt x r = Judged (follower_of K p) (seen K p.view) p.own p.other (step_of K x) r

  -- every step before a place is followed
  abbrev pub Followed : ℕ → Type 0
  Followed k = FollowedBelow (follower_of K p) (seen K p.view) p.own p.other (model K mover).steps k

  abbrev pub SoFar : ℕ → Type 0
  SoFar k = Reached (Followed k)

  -- the steps that are left, where each step before them is followed
  abbrev pub Left : List (ℕ × Step S) → Type 0
  Left = Walked (Leaving p.own) xs SoFar

  pub none_yet : (left all : List (ℕ × Step S)) → left ≡ all → all ≡ numbered (Leaving p.own) xs 0 → Left left
  none_yet left all e is = walk_none (Leaving p.own) xs SoFar left (e ∙ is) (λ few inside reach j x l. absurd (omega arith))

  module _ (i : ℕ) (x : Step S) (l : i < length xs) (read : x ≡ get_or xs i x) where
    place : At (model K mover).steps i (step_of K x)
    place = step_at K xs i x l read

    one_more : JudgedAt x None → Followed i → Followed (i + 1)
    one_more is before = followed_more (follower_of K p) (seen K p.view) p.own p.other (model K mover).steps i (step_of K x) place before is

    -- a step from elsewhere is passed over
    past : is_sought (Leaving p.own) x ≡ false → SoFar i → SoFar (i + 1)
    past other before few inside reach =
        one_more (judged_elsewhere (follower_of K p) (seen K p.view) p.own p.other (step_of K x) (λ e. both_ways _ other (eq-eqb x.from p.own e))) (before few inside reach)

  -- the next step that leaves the state, and its judgement
  module _ (i : ℕ) (x : Step S) (left rest : List (ℕ × Step S)) (walked : Left left) (e : left ≡ (i, x) ∷ rest) where
    here : Here (Leaving p.own) xs SoFar i x rest
    here = walk_here (Leaving p.own) xs SoFar past i x left rest walked e

    pub goes_on : Reached (JudgedAt x None) → Left rest
    goes_on is =
        walk_more (Leaving p.own) xs SoFar SoFar i x rest here
        (λ few inside reach. one_more i x here.below here.read (is few inside reach) (here.there few inside reach))

    pub stops : (v : ℕ) → Reached (JudgedAt x (Some v)) → Reached (FirstUnfollowed (follower_of K p) (seen K p.view) p.own p.other (model K mover).steps i v)
    stops v is few inside reach =
        record { step = step_of K x; place = place i x here.below here.read; judged = is few inside reach; before = here.there few inside reach }

  pub every_one : (left : List (ℕ × Step S)) → Left left → left ≡ [] →
      Reached (AllFollowed (follower_of K p) (seen K p.view) p.own p.other (model K mover).steps)
  every_one left walked e few inside reach j x l =
      walk_all (Leaving p.own) xs SoFar past left walked e few inside reach j x (omega (arith, length-map xs (step_of K)))

  -- what a call at a step and its place tells
  abbrev pub Told : ℕ × Step S → Option Lapse → Type 0
  Told x r = LapsesAt K p x.0 x.1 r

  -- those before n are followed, so that the others are left
  after_front : (n : ℕ) (all : List (ℕ × Step S)) → n ≤ length all → ((k : ℕ) (d : ℕ × Step S) → k < n → Told (get_or all k d) None) → Left all → Left (drop n all)
  after_front zero all l told left = left
  after_front (suc n) [] l told left = absurd (omega arith)
  after_front (suc n) (x ∷ all) l told left =
      after_front n all (omega arith) (λ k d b. told (suc k) d (omega arith)) (goes_on x.0 x.1 (x ∷ all) all left refl (told 0 x (omega arith)))

  -- the first lapse among calls that tell of each step
  module _ {F : Type 0} (g : Mut F ((ℕ × Step S) × Unit {0}) (Option Lapse)) (f : F) (all : List (ℕ × Step S)) (left : Left all)
      (tells : (x : ℕ × Step S) (r : Option Lapse) (q : F) → Called g f (x, tt) r q → (q ≡ f) × Told x r) where
    kept : CallKeepsClosure g f
    kept a r q k = (tells a.0 r q k).0

    at_item : (o : Option (ℕ × Step S)) (y : ℕ × Step S) (r : Option Lapse) → option_map (λ y. y) o ≡ Some y → IfSome o (λ x. Called g f (x, tt) r f) → Told y r
    at_item None y r e k = absurd (cc e)
    at_item (Some x) y r e k = subst (λ (z : ℕ × Step S). Told z r) (cc e) (tells x r f k).1

    if_some : (o : Option (ℕ × Step S)) (P : ℕ × Step S → Type 0) → IsSomeAnd o P → IfSome o P
    if_some None P h = absurd h
    if_some (Some x) P h = h

    stopped : (i : ℕ) (l : Lapse) (o : Option (ℕ × Step S)) → IsSomeAnd o (λ x. Called g f (x, tt) (Some l) f) → i < length all → Left (drop i all) →
        ((x : ℕ × Step S) → Told (get_or all i x) (Some l)) → Reached (Lapsed (follower_of K p) (seen K p.view) p.own p.other (model K mover).steps (Some l))
    stopped i l None h below rest told = absurd h
    stopped i l (Some x) h below rest told =
        let y = get_or all i x in
        λ few inside reach. subst (λ (k : ℕ). FirstUnfollowed (follower_of K p) (seen K p.view) p.own p.other (model K mover).steps k l.variant) (sym (told x).0)
        (stops y.0 y.1 (drop i all) (drop (i + 1) all) rest (drop_more all i x below) l.variant (told x).1 few inside reach)

    pub lapsed : (r : Option Lapse) → SomeRun (YieldsFirst (λ rest. rest)) all (λ p. MatchOption r (IsTrue p.whole × AllItemsGive p g f None)
        (λ y. (i : ℕ) × (i < p.len) × (p.len ≡ i + 1) × IsFirstToGive p g f (Some y) None i)) →
        Reached (Lapsed (follower_of K p) (seen K p.view) p.own p.other (model K mover).steps r)
    lapsed None run =
        let items = (run_of_first (λ rest. rest) run.0).1 in
        let whole = run.2.0 in
        let n = length all in
        let long : run.0.len ≡ n = items.1 whole ∙ ap length run.1 in
        every_one (drop n all)
        (after_front n all (omega arith)
        (λ k d b. at_item (run.0.at k) (get_or all k d) None (items.2 k d (omega (arith, long)) ∙ ap (λ ys. Some (get_or ys k d)) run.1) (run.2.1 kept k)) left)
        (drop_all n all (omega arith))
    lapsed (Some l) run =
        let items = (run_of_first (λ rest. rest) run.0).1 in
        let i = run.2.0 in
        let first = run.2.3 kept in
        let below : i < length all = omega (arith, run.2.1, items.0, ap length run.1) in
        let before : (k : ℕ) (d : ℕ × Step S) → k < i → Told (get_or all k d) None =
        λ k d b. at_item (run.0.at k) (get_or all k d) None (items.2 k d (omega (arith, run.2.1)) ∙ ap (λ ys. Some (get_or ys k d)) run.1) (if_some (run.0.at k) (λ x. Called g f (x, tt) None f) (first.1 k b)) in
        let rest = after_front i all (omega (arith, below)) before left in
        let here : (x : ℕ × Step S) → Told (get_or all i x) (Some l) =
        λ x. at_item (run.0.at i) (get_or all i x) (Some l) (items.2 i x run.2.1 ∙ ap (λ ys. Some (get_or ys i x)) run.1) (if_some (run.0.at i) (λ y. Called g f (y, tt) (Some l) f) first.0) in
        stopped i l (run.0.at i) first.0 below rest here
