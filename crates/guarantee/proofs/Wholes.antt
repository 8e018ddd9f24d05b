-- A run with begin's families and sweeps enough, and the settling after it.
use Rattle.std.proofs.Common.{◌≡◌, ℕ, ◌*◌, ◌<◌, ◌≤◌, true, false, List, [], ◌∷◌, length, is_ok, Some, None, Ok, Err, Option, Result, refl, ◌∙◌, mul-le-mul, arith, MatchResult}
use Rattle.theory.specs.Sets.{Variants}
use Rattle.theory.specs.Systems.{Family}
use Rattle.theory.specs.Answers.{Answer, granted}
use Rattle.theory.specs.Calls.{Frame, Moment, struck, Brings, run, settle, Ran, Does, ran, run_refused, settled_now, settle_refused, after_settle}
use Rattle.theory.specs.Histories.{frame_of, first_moment, Turn, at_once, then, History, Promised, ComparingIsExact, strikes_in}
use Rattle.theory.proofs.Calling.{calls_have_one_outcome}
use Rattle.refusals.specs.declared.Refusal.{Refusal}
use Rattle.variants.specs.declared.VariantSet.{Ghosts as Kind}
use Rattle.variants.specs.Kinds.{Countable}
use Rattle.families.specs.declared.Family as lib
use Rattle.families.specs.Drafts.{model}
use Rattle.comparing.specs.declared.Comparison.{Comparison}
use Rattle.comparing.specs.declared.Sweeping.{Sweeping}
use Rattle.comparing.specs.Moments.{Settled, last_of, frame, moment, settled_moment, Begun, Continues}
use Rattle.comparing.specs.Outcomes.{ran_answer, Runs, Settles}
use Rattle.guarantee.specs.Wholes.{Compares}
use Rattle.guarantee.proofs.Steps.{untouched_still}

-- the families of a frame are brought
brings_own : (V : ℕ) (L R : Family) → Brings (frame_of V L R) L R
brings_own V L R = record { left_states = refl; left_start = refl; right_states = refl; right_start = refl }

-- a run with families that fit answers two numbers
run_answers : {f : Frame} {L R : Family} {b : ℕ} {m m' : Moment} {a : Answer} → Brings f L R → Does f m (run b L R) a m' → length a.values ≡ 2
run_answers fits (ran o b r) = refl
run_answers fits (run_refused o n) = absurd (n fits)

ok_of : (r : Result (ℕ × ℕ) Refusal) → length (ran_answer r).values ≡ 2 → is_ok r ≡ true
ok_of (Ok p) e = refl
ok_of (Err x) e = absurd (omega (arith, e))

settle_quiet : {f : Frame} {m m' : Moment} {a : Answer} → Does f m settle a m' → a.number ≡ 0 → m.last ≡ struck 0
settle_quiet (settled_now o q) e = q
settle_quiet (settle_refused o n) e = absurd (omega (arith, e))

settle_leaves : {f : Frame} {m m' : Moment} → Does f m settle (granted []) m' → m' ≡ after_settle m
settle_leaves (settled_now o q) = refl

some_of : (l : Option ℕ) → last_of l ≡ struck 0 → l ≡ Some 0
some_of (Some k) e = cc
some_of None e = cc

-- the numbers that a granted run answers are those of the run
run_leads : {f : Frame} {L R : Family} {b j k : ℕ} {m m' : Moment} → Does f m (run b L R) (granted (j ∷ k ∷ [])) m' → Ran f.variants L R b m j k m'
run_leads (ran o b r) = r

-- a run of at most b sweeps straight from begin, whatever the words for its frame and its first moment
module _ (V : ℕ) (L R : Family) (listed : Variants) (b : ℕ) (f : Frame) (m m' : Moment) (r : Result (ℕ × ℕ) Refusal) (p : f ≡ frame_of V L R) (q : m ≡ first_moment L R listed) (does : Does f m (run b L R) (ran_answer r) m') where
  from_begin : Does (frame_of V L R) (first_moment L R listed) (run b L R) (ran_answer r) m'
  from_begin = rw (p, q) at does

  pub run_ok : is_ok r ≡ true
  run_ok = ok_of r (run_answers (brings_own V L R) from_begin)

  module _ (exact : ComparingIsExact V L R listed) (j k : ℕ) (got : r ≡ Ok (j, k)) where
    with_values : Does (frame_of V L R) (first_moment L R listed) (run b L R) (granted (j ∷ k ∷ [])) m'
    with_values = rw got at from_begin

    history : History V L R listed (record { call = run b L R; answer = granted (j ∷ k ∷ []) } ∷ []) m'
    history = then (run b L R) (granted (j ∷ k ∷ [])) at_once with_values (λ _. (refl, refl))

    pub leads : Ran V L R b (first_moment L R listed) j k m'
    leads = run_leads with_values

    -- with more sweeps than there are places the last struck nothing
    pub quiet : m'.settled ≡ false → (L.states * R.states) * V < b → m'.last ≡ struck 0
    quiet unsettled enough =
        let K = exact.final_losses in
        let o = calls_have_one_outcome (frame_of V L R) m' settle unsettled in
        settle_quiet o.2 ((exact.over_any_history _ m' history).enough_sweeps_settle K.0 K.1 (omega (arith, K.2)) o.0 o.1 o.2)

    -- what is promised once it settled
    pub settled_promised : (n : Moment) → Does (frame_of V L R) m' settle (granted []) n → (turns : List Turn) × Promised V L R listed turns n × (strikes_in turns ≡ k)
    settled_promised n d = (_, exact.over_any_history _ n (then settle (granted []) history d tt), omega arith)

-- as many places as a comparison can have are fewer than its sweeps may be
places_few : (n m V : ℕ) → n ≤ 64 → m ≤ 64 → V ≤ 1024 → (n * m) * V < 4294967295
places_few n m V p q r =
    let pairs : n * m ≤ 64 * 64 = mul-le-mul p q in
    let all : (n * m) * V ≤ (64 * 64) * 1024 = mul-le-mul pairs r in
    omega arith

module _ {S : Type 0} (K : Kind S) (left right : lib.Family S) (list : S) (lent : List S) (few : Countable K)
    (c c' : Comparison S Sweeping) (begun : Begun K left right list lent c) (exact : ComparingIsExact K.variants (model K left) (model K right) (K.holds list))
    (r : Result (ℕ × ℕ) Refusal) (runs : Runs K c 4294967295 left right r c')
    (leaves : MatchResult r (λ _. Continues c c') (λ _. c' ≡ c)) where
  abbrev L : Family
  L = model K left

  abbrev R : Family
  R = model K right

  -- begin's families are not refused
  pub own_run_ok : is_ok r ≡ true
  own_run_ok = run_ok K.variants L R (K.holds list) 4294967295 (frame K c) (moment K c) (moment K c') r begun.begun_frame begun.begun_moment (runs few)

  module _ (j k : ℕ) (got : r ≡ Ok (j, k)) where
    -- and the run ends with a sweep that strikes nothing
    pub own_run_settles : c'.phase.last ≡ Some 0
    own_run_settles =
        some_of c'.phase.last
        (quiet K.variants L R (K.holds list) 4294967295 (frame K c) (moment K c) (moment K c') r begun.begun_frame begun.begun_moment (runs few)
        exact j k got refl (places_few L.states R.states K.variants left.parts.few.1 right.parts.few.1 few))

    continues : Continues c c'
    continues = rw got at leaves

    frames : frame K c' ≡ frame_of K.variants L R
    frames = cc (continues.table.rows, continues.table.cols, continues.left_start, continues.right_start, begun.begun_frame)

    -- a comparison that was run from begin and settled
    pub compares : (d : Settled S) → Settles K c' d → d.table ≡ c'.table → Compares K left right list lent (record { sweeps = j; strikes = k; settled = d })
    compares d settles same =
        let h = settled_promised K.variants L R (K.holds list) 4294967295 (frame K c) (moment K c) (moment K c') r begun.begun_frame begun.begun_moment (runs few)
        exact j k got (settled_moment K d) (rw frames at settles.does) in
        record {
          frame = settles.same_frame ∙ frames;
          exact = h.1.exact.settled_exact refl;
          largest = h.1.exact.settled_largest refl;
          losses = rw h.2 at (h.1.settled_strikes refl);
          last = moment K c';
          ran = leads K.variants L R (K.holds list) 4294967295 (frame K c) (moment K c) (moment K c') r begun.begun_frame begun.begun_moment (runs few) exact j k got;
          settled = settle_leaves settles.does;
          memory = rw same (untouched_still K left right list lent c begun c'.table
              (record { rows = continues.table.rows; cols = continues.table.cols; size = continues.table.size; beyond = continues.table.beyond }));
        }
