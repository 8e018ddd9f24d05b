-- Every order of calls keeps a comparison exact.
use Rattle.std.proofs.Common.{◌≡◌, ℕ, zero, suc, ◌+◌, ◌*◌, ◌<◌, ◌≤◌, true, false, cond, ◌⊎◌, ◌↔◌, List, [], ◌∷◌, ◌++◌, sym, refl, ap, subst, subst₂, inl, inr, arith}
use mathlib.Core.List.{Memᴰ}
use Rattle.std.proofs.lemmas.Bool.{both_ways}
use Rattle.theory.specs.Sets.{Variants, OfKind, members}
use Rattle.theory.specs.Systems.{Family, machine, agree}
use Rattle.theory.specs.Simulations.{Pairs, Simulation}
use Rattle.theory.specs.Tables.{Table, FamilySimulation}
use Rattle.theory.specs.Sweeps.{begun, keeps, swept, strikes, lost}
use Rattle.theory.specs.Answers.{Answer}
use Rattle.theory.specs.Calls.{Frame, Moment, unswept, struck, Call, sweep, ask, settle, verdict, after_sweep, after_settle, Ran, spent, quiet, on, Does, swept_once, swept_refused, ran, run_refused, asked, ask_no_pair, ask_no_variant, settled_now, settle_refused, judged}
use Rattle.theory.specs.Histories.{frame_of, first_moment, Turn, SameFamilies, strikes_answered, sweeps_allowed, strikes_in, sweeps_in, History, Led, at_once, then, Related, Unrelated, LostInTheEnd, Exact, Promised, ComparingIsExact}
use Rattle.theory.proofs.Cards.{members_out, members_in}
use Rattle.theory.proofs.Counting.{count_one, count_bound, digits_same}
use Rattle.theory.proofs.Sweeps.{Within, rows_less}
use Rattle.theory.proofs.Rules.{keeps_rule, keeps_monotone, simulation_closed, rule_simulation, in_each_variant}
use Rattle.theory.proofs.Losses as losses

module _ (V : ℕ) (L R : Family) (listed : Variants) where
  abbrev Inside : Table → Type 0
  Inside = losses.Inside V L.states R.states (agree L R) listed

  abbrev Put : ℕ → ℕ → ℕ → Type 0
  Put = losses.Put V L.states R.states (agree L R) listed

  put : (s t v : ℕ) → begun L R listed s t v ≡ true → Put s t v
  put = losses.put V L.states R.states (agree L R) listed

  abbrev Stable : Table → Type 0
  Stable = losses.Stable V L.states R.states (agree L R) listed (keeps L R) (keeps_monotone L R)

  -- the sets of pairs are the simulations of a variant's two machines
  abbrev Post : ℕ → Pairs → Type 0
  Post v rel = Simulation (machine L v) (machine R v) rel

  post_in : (v : ℕ) (rel : Pairs) → Post v rel → (s t : ℕ) → rel s t ≡ true → (s < L.states) × (t < R.states) × (agree L R s t ≡ true)
  unfolding agree
  post_in v rel sim s t e = (sim.left_in s t e, sim.right_in s t e, sim.agrees s t e)

  stable_post : (T : Table) → Inside T → Stable T → (v : ℕ) → v < V → Post v (λ s t. T s t v)
  stable_post T inside stable v lv =
      rule_simulation L R T v (λ s t e. let p = put s t v (inside s t v e) in (p.left_in, p.right_in, p.agrees)) (λ s t e. keeps_rule L R T s t v (stable s t v lv e))

  -- the table holds every simulation of a listed variant
  abbrev Full : Table → Type 0
  Full T = (rel : Pairs) (v : ℕ) → Post v rel → listed v ≡ true → (s t : ℕ) → rel s t ≡ true → T s t v ≡ true

  full_begun : Full (begun L R listed)
  full_begun = losses.full_first V L.states R.states (agree L R) listed (keeps L R) (keeps_monotone L R) Post post_in (simulation_closed L R) stable_post

  full_swept : (T : Table) → Full T → Full (swept L R T)
  full_swept = losses.full_after V L.states R.states (agree L R) listed (keeps L R) (keeps_monotone L R) Post post_in (simulation_closed L R) stable_post

  stable_quiet : (T : Table) → Inside T → Stable T → strikes L R V T ≡ 0
  stable_quiet = losses.stable_quiet V L.states R.states (agree L R) listed (keeps L R) (keeps_monotone L R) Post post_in (simulation_closed L R) stable_post

  quiet_stable : (T : Table) → Inside T → strikes L R V T ≡ 0 → Stable (swept L R T)
  quiet_stable = losses.quiet_stable V L.states R.states (agree L R) listed (keeps L R) (keeps_monotone L R)

  swept_less : (v : ℕ) (T : Table) → Within v (swept L R T) T
  swept_less v T = rows_less (keeps L R) R.states v T L.states

  -- the places that are lost in the end
  marks : (s t v : ℕ) → t < R.states → v < V → agree L R s t ≡ true → listed v ≡ true → (Related L R v s t → ⊥) →
      Unrelated V L R listed (s * (R.states * V) + (t * V + v))
  marks s t v lt lv a l never =
      record { s = s; t = t; v = v; t_in = lt; v_in = lv; place = omega arith; agrees = a; is_listed = l; never = never }

  marked : (s t v : ℕ) → t < R.states → v < V → Unrelated V L R listed (s * (R.states * V) + (t * V + v)) →
      (agree L R s t ≡ true) × (listed v ≡ true) × (Related L R v s t → ⊥)
  marked s t v lt lv u = (rw (inner.0, inner.1) u.agrees, rw outer.1 u.is_listed, rw (inner.0, inner.1, outer.1) u.never)
    where
      outer : ((s * R.states + t) ≡ (u.s * R.states + u.t)) × (v ≡ u.v)
      outer = digits_same V (s * R.states + t) v (u.s * R.states + u.t) u.v lv u.v_in (omega (arith, u.place))

      inner : (s ≡ u.s) × (t ≡ u.t)
      inner = digits_same R.states s t u.s u.t lt u.t_in outer.0

  lost_bound : (T : Table) (K : ℕ) → Full T → LostInTheEnd V L R listed K → lost L R V listed T ≤ K
  lost_bound = losses.lost_bound V L.states R.states (agree L R) listed (keeps L R) (keeps_monotone L R) Post post_in (simulation_closed L R) stable_post (Unrelated V L R listed) marks marked

  lost_count : (T : Table) → Inside T → Stable T → Full T → LostInTheEnd V L R listed (lost L R V listed T)
  lost_count = losses.lost_count V L.states R.states (agree L R) listed (keeps L R) (keeps_monotone L R) Post post_in (simulation_closed L R) stable_post (Unrelated V L R listed) marks marked

  -- what every history keeps, with k strikes answered
  record Kept (m : Moment) (k : ℕ) : Type 0 where
    inside : Inside m.table
    full : Full m.table
    stable : m.last ≡ struck 0 → Stable m.table
    was_quiet : m.settled ≡ true → m.last ≡ struck 0
    counted : k ≡ lost L R V listed m.table

  -- either the last sweep struck nothing, or there were at least as many strikes as sweeps allowed
  abbrev Pace : Moment → ℕ → ℕ → Type 0
  Pace m k w = (m.last ≡ struck 0) ⊎ (w ≤ k)

  abbrev Inv : Moment → ℕ → ℕ → Type 0
  Inv m k w = Kept m k × Pace m k w

  begin_inv : Inv (first_moment L R listed) 0 0
  begin_inv = (
    record {
      inside = λ s t v e. e;
      full = full_begun;
      stable = λ e. absurd (never e);
      was_quiet = λ e. absurd (both_ways _ refl e);
      counted = sym (losses.lost_first V L.states R.states (agree L R) listed);
    },
    inr (omega arith),
  )
    where
      never : unswept ≡ struck 0 → ⊥
      never e = let z : ◌≡◌ {A = ℕ} 0 1 = cc in omega arith

  sweep_kept : (m : Moment) (k : ℕ) → Kept m k → Kept (after_sweep V L R m) (k + strikes L R V m.table)
  sweep_kept m k i =
      record {
        inside = λ s t v e. i.inside s t v (swept_less v m.table s t e);
        full = full_swept m.table i.full;
        stable = λ e. quiet_stable m.table i.inside (zero_struck (strikes L R V m.table) e);
        was_quiet = λ e. absurd (both_ways _ refl e);
        counted = omega (arith, i.counted, losses.lost_adds V L.states R.states (agree L R) listed m.table (swept L R m.table) i.inside (λ v. swept_less v m.table));
      }
    where
      zero_struck : (n : ℕ) → struck n ≡ struck 0 → n ≡ 0
      zero_struck n e = cc

  sweep_pace : (m : Moment) (k w : ℕ) → Kept m k → Pace m k w → Pace (after_sweep V L R m) (k + strikes L R V m.table) (w + 1)
  sweep_pace m k w i p = go (strikes L R V m.table) refl p
    where
      go : (n : ℕ) → strikes L R V m.table ≡ n → Pace m k w → (struck n ≡ struck 0) ⊎ (w + 1 ≤ k + n)
      go zero e p = inl refl
      go (suc n) e (inl q) = absurd (omega (arith, e, stable_quiet m.table i.inside (i.stable q)))
      go (suc n) e (inr h) = inr (omega arith)

  moved : (m : Moment) (k w k' w' : ℕ) → k ≡ k' → w ≡ w' → Inv m k w → Inv m k' w'
  moved m k w k' w' p q h = subst₂ (λ (x y : ℕ). Inv m x y) p q h

  ran_inv : (k w : ℕ) {m m' : Moment} {b j n : ℕ} → Ran V L R b m j n m' → Inv m k w → Inv m' (k + n) (w + b)
  ran_inv k w {m = m} spent h = moved m k w (k + 0) (w + 0) (omega arith) (omega arith) h
  ran_inv k w (quiet {b = b} {m = m} e) h =
      (subst (λ (x : ℕ). Kept (after_sweep V L R m) x) (omega (arith, e)) (sweep_kept m k h.0), inl (ap struck e))
  ran_inv k w (on {b = b} {j = j} {k = n} {m = m} {m' = m'} e r) h =
      let q = strikes L R V m.table in
      moved m' ((k + q) + n) ((w + 1) + b) (k + (q + n)) (w + suc b) (omega arith) (omega arith)
      (ran_inv (k + q) (w + 1) r (sweep_kept m k h.0, sweep_pace m k w h.0 h.1))

  abbrev frame : Frame
  frame = frame_of V L R

  -- a call adds what it answers and allows
  step : (k w : ℕ) {m m' : Moment} {c : Call} {a : Answer} → Does frame m c a m' → SameFamilies L R c a → Inv m k w →
      Inv m' (strikes_answered c a + k) (sweeps_allowed c a + w)
  step k w {m = m} (swept_once {L = L'} {R = R'} unset brings) same h =
      subst₂ (λ (x y : Family). Inv (after_sweep V x y m) (strikes x y V m.table + k) (1 + w)) (sym (same refl).0) (sym (same refl).1)
      (moved (after_sweep V L R m) (k + strikes L R V m.table) (w + 1) (strikes L R V m.table + k) (1 + w) (omega arith) (omega arith)
      (sweep_kept m k h.0, sweep_pace m k w h.0 h.1))
  step k w {m = m} (swept_refused unset n) same h = moved m k w (0 + k) (0 + w) (omega arith) (omega arith) h
  step k w {m = m} (ran {L = L'} {R = R'} {b = b} {j = j} {k = n} {m' = m'} unset brings r) same h =
      moved m' (k + n) (w + b) (n + k) (b + w) (omega arith) (omega arith)
      (ran_inv k w (subst₂ (λ (x y : Family). Ran V x y b m j n m') (same refl).0 (same refl).1 r) h)
  step k w {m = m} (run_refused unset n) same h = moved m k w (0 + k) (0 + w) (omega arith) (omega arith) h
  step k w {m = m} (asked ls lt lv) same h = moved m k w (0 + k) (0 + w) (omega arith) (omega arith) h
  step k w {m = m} (ask_no_pair n) same h = moved m k w (0 + k) (0 + w) (omega arith) (omega arith) h
  step k w {m = m} (ask_no_variant ls lt n) same h = moved m k w (0 + k) (0 + w) (omega arith) (omega arith) h
  step k w {m = m} (settled_now unset e) same h =
      moved (after_settle m) k w (0 + k) (0 + w) (omega arith) (omega arith)
      (record { inside = h.0.inside; full = h.0.full; stable = h.0.stable; was_quiet = λ _. e; counted = h.0.counted }, h.1)
  step k w {m = m} (settle_refused unset n) same h = moved m k w (0 + k) (0 + w) (omega arith) (omega arith) h
  step k w {m = m} (judged shut) same h = moved m k w (0 + k) (0 + w) (omega arith) (omega arith) h

  history_inv : {turns : List Turn} {m : Moment} → History V L R listed turns m → Inv m (strikes_in turns) (sweeps_in turns)
  history_inv at_once = begin_inv
  history_inv (then {turns = turns} c a h d same) = step (strikes_in turns) (sweeps_in turns) d same (history_inv h)

  module _ (kind : OfKind V listed) (m : Moment) (k : ℕ) (i : Kept m k) where
    only_listed : (s t v : ℕ) → m.table s t v ≡ true → listed v ≡ true
    only_listed s t v e = (put s t v (i.inside s t v e)).is_listed

    safe : (s t v : ℕ) → listed v ≡ true → Related L R v s t → m.table s t v ≡ true
    safe s t v l x = i.full x.0 v x.1 l s t x.2

    settled_simulation : m.settled ≡ true → FamilySimulation L R listed m.table
    settled_simulation shut =
        record {
          left_in = λ s t v e. (put s t v (i.inside s t v e)).left_in;
          right_in = λ s t v e. (put s t v (i.inside s t v e)).right_in;
          agrees = λ s t v e. (put s t v (i.inside s t v e)).agrees;
          only_listed = only_listed;
          rule = λ s t v e. keeps_rule L R m.table s t v (i.stable (i.was_quiet shut) s t v (kind v (only_listed s t v e)) e);
        }

    settled_exact : m.settled ≡ true → (s t v : ℕ) → (m.table s t v ≡ true) ↔ ((listed v ≡ true) × Related L R v s t)
    settled_exact shut s t v = (
      λ e. (only_listed s t v e, ((λ x y. m.table x y v), in_each_variant L R listed m.table (settled_simulation shut) v, e)),
      λ x. safe s t v x.0 x.1,
    )

    asks : {s t v : ℕ} {a : Answer} {m' : Moment} → Does frame m (ask s t v) a m' → a.number ≡ 0 →
        (a.values ≡ cond (m.table s t v) 1 0 ∷ []) × (m' ≡ m)
    asks (asked ls lt lv) e = (refl, refl)
    asks (ask_no_pair n) e = absurd (omega arith)
    asks (ask_no_variant ls lt n) e = absurd (omega arith)

    verdicts : {a : Answer} {m' : Moment} → Does frame m verdict a m' →
        (a.number ≡ 0) × (a.values ≡ members V (m.table L.start R.start)) × (m' ≡ m)
    verdicts (judged shut) = (refl, refl, refl)

    verdict_exact : {a : Answer} {m' : Moment} → Does frame m verdict a m' →
        (v : ℕ) → Memᴰ v a.values ↔ ((listed v ≡ true) × Related L R v L.start R.start)
    verdict_exact (judged shut) v =
        let at_starts = m.table L.start R.start in (
          λ x. (settled_exact shut L.start R.start v).0 (members_out V at_starts v x).1,
          λ x. members_in V at_starts v (kind v x.0) (safe L.start R.start v x.0 x.1),
        )

    exact : Exact V L R listed m
    exact =
        record {
          only_listed = only_listed;
          safe = safe;
          settled_exact = settled_exact;
          settled_largest = λ shut. record {
            simulates = settled_simulation shut;
            contains = λ U f s t v e. i.full (λ x y. U x y v) v (in_each_variant L R listed U f v) (f.only_listed s t v e) s t e;
          };
          asks = λ s t v a m' d e. asks d e;
          verdicts = λ a m' d. verdicts d;
          verdict_exact = λ a m' d. verdict_exact d;
        }

  quiet_by_then : (m : Moment) (k w K : ℕ) → Inv m k w → LostInTheEnd V L R listed K → K < w → m.last ≡ struck 0
  quiet_by_then m k w K h c l = go h.1
    where
      go : Pace m k w → m.last ≡ struck 0
      go (inl e) = e
      go (inr p) = absurd (omega (arith, h.0.counted, lost_bound m.table K h.0.full c))

  granted_then : {m : Moment} → (m.last ≡ struck 0) → {a : Answer} {m' : Moment} → Does frame m settle a m' → a.number ≡ 0
  granted_then e (settled_now unset q) = refl
  granted_then e (settle_refused unset n) = absurd (n e)

  promised : OfKind V listed → (turns : List Turn) (m : Moment) → History V L R listed turns m → Promised V L R listed turns m
  promised kind turns m history =
      let h = history_inv history in
      let i = h.0 in
      record {
        exact = exact kind m (strikes_in turns) i;
        strikes_are_losses = i.counted;
        enough_sweeps_settle = λ K c l a m' d. granted_then (quiet_by_then m (strikes_in turns) (sweeps_in turns) K h c l) d;
        settled_strikes = λ shut.
            subst (λ (n : ℕ). LostInTheEnd V L R listed n) (sym i.counted)
            (lost_count m.table i.inside (i.stable (i.was_quiet shut)) i.full);
      }

  -- n sweeps, one after another
  record Swept (n : ℕ) : Type 0 where
    turns : List Turn
    moment : Moment
    history : History V L R listed turns moment
    allowed : sweeps_in turns ≡ n
    unsettled : moment.settled ≡ false

  sweeps : (n : ℕ) → Swept n
  sweeps zero = record { turns = []; moment = first_moment L R listed; history = at_once; allowed = refl; unsettled = refl }
  sweeps (suc n) =
      let r = sweeps n in
      record {
        turns = _;
        moment = after_sweep V L R r.moment;
        history = then (sweep L R) _ r.history (swept_once r.unsettled (record { left_states = refl; left_start = refl; right_states = refl; right_start = refl })) (λ _. (refl, refl));
        allowed = omega (arith, r.allowed);
        unsettled = refl;
      }

  size : ℕ
  size = L.states * (R.states * V)

  -- after more sweeps than there are places the last struck nothing
  at_rest : Swept (suc size)
  at_rest = sweeps (suc size)

  rest_quiet : at_rest.moment.last ≡ struck 0
  unfolding size
  rest_quiet = go (history_inv at_rest.history)
    where
      go : Inv at_rest.moment (strikes_in at_rest.turns) (sweeps_in at_rest.turns) → at_rest.moment.last ≡ struck 0
      go h = elim h.1 [
        | inl e ↦ e
        | inr l ↦ absurd (omega (arith, h.0.counted, at_rest.allowed, losses.lost_few V L.states R.states (agree L R) listed at_rest.moment.table))
      ]

  pub comparing_is_exact : OfKind V listed → ComparingIsExact V L R listed
  comparing_is_exact kind =
      let i = (history_inv at_rest.history).0 in
      let c = lost_count at_rest.moment.table i.inside (i.stable rest_quiet) i.full in
      record {
        over_any_history = promised kind;
        final_losses = (lost L R V listed at_rest.moment.table, c, count_bound c);
        one_number = λ K K' c d. count_one c d;
        some_history_settles = (_, after_settle at_rest.moment, then settle _ at_rest.history (settled_now at_rest.unsettled rest_quiet) tt, refl);
      }

-- turns that lead on from where others led to
pub led_on : {f : Frame} {L R : Family} {m₀ m₁ m₂ : Moment} (earlier later : List Turn) → Led f L R m₀ earlier m₁ → Led f L R m₁ later m₂ →
    Led f L R m₀ (later ++ earlier) m₂
led_on earlier [] before at_once = before
led_on earlier (x ∷ later) before (then c a h d same) = then c a (led_on earlier later before h) d same

-- and where they led to before
pub led_before : {f : Frame} {L R : Family} {m₀ m : Moment} (later earlier : List Turn) → Led f L R m₀ (later ++ earlier) m →
    (mid : Moment) × Led f L R m₀ earlier mid
led_before {m = m} [] earlier h = (m, h)
led_before (x ∷ later) earlier (then c a h d same) = led_before later earlier h
