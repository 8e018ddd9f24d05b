-- Turn by turn.
use Rattle.std.proofs.Common.{◌≡◌, ℕ, ◌+◌, ◌*◌, ◌<◌, ◌≤◌, true, List, [], ◌∷◌, ◌++◌, map, length, get_or, take, drop, set, Some, None, Option, Result, sym, refl, ap, ◌∙◌, ap₂, append_assoc, arith, take-append-drop}
use Rattle.std.proofs.lemmas.List.{append-nil, map-set, set-get_or, get_or-map, take_more_set, take-take, drop-drop, drop-set-lt, drop_more, length-set, drop_all}
use Rattle.theory.specs.Systems as theory
use Rattle.theory.specs.Answers.{Answer}
use Rattle.theory.specs.Calls.{Moment, Takes}
use Rattle.theory.specs.Histories.{frame_of, SameFamilies, Led, at_once, then}
use Rattle.theory.proofs.Histories.{comparing_is_exact, led_on, led_before}
use Rattle.variants.specs.declared.VariantSet.{Ghosts as Kind}
use Rattle.variants.specs.Kinds.{Countable}
use Rattle.refusals.specs.declared.Refusal.{Refusal}
use Rattle.families.specs.declared.Family.{Family}
use Rattle.families.specs.Drafts.{model}
use Rattle.tables.specs.declared.Table.{Table}
use Rattle.histories.specs.declared.Request.{Request}
use Rattle.histories.specs.declared.Request.TheVariants.{Sweep, Run, Ask, Settle, Verdict}
use Rattle.histories.specs.declared.Reply.{Reply}
use Rattle.histories.specs.declared.Turn.{Turn}
use Rattle.histories.specs.declared.Stage.{Stage}
use Rattle.histories.specs.declared.Taken.{Taken}
use Rattle.histories.specs.Turns.{call_of, reply_answer, turn_of, told}
use Rattle.histories.specs.Stages.{stage_table, stage_frame, stage_moment, RoomKept}
use Rattle.histories.specs.Plays.{Replies, TakesOne, KeepsPromises, Plays}

pub room_refl : {S : Type 0} (T : Table S) → RoomKept T T
room_refl T = record { rows = refl; cols = refl; size = refl; beyond = refl }

room_trans : {S : Type 0} (T U W : Table S) → RoomKept T U → RoomKept U W → RoomKept T W
room_trans T U W p q =
    let pairs : U.rows * U.cols ≡ T.rows * T.cols = ap₂ (λ (n m : ℕ). n * m) p.rows p.cols in
    record {
      rows = q.rows ∙ p.rows;
      cols = q.cols ∙ p.cols;
      size = q.size ∙ p.size;
      beyond = rw pairs at q.beyond ∙ p.beyond;
    }

-- a request brings the families that it is done with
own_families : (L R : theory.Family) (x : Request) (a : Answer) → SameFamilies L R (call_of L R x) a
own_families L R Sweep a = λ _. (refl, refl)
own_families L R (Run b) a = λ _. (refl, refl)
own_families L R (Ask s t v) a = tt
own_families L R Settle a = tt
own_families L R Verdict a = tt

module _ {S : Type 0} (K : Kind S) (L R : theory.Family) where
  told_append : (xs ys : List (Turn S)) → told K L R (xs ++ ys) ≡ told K L R ys ++ told K L R xs
  told_append [] ys = sym (append-nil (told K L R ys))
  told_append (x ∷ xs) ys = rw (told_append xs ys, append_assoc)

  told_more : (xs : List (Turn S)) (i : ℕ) (y : Turn S) → i < length xs → told K L R (take (i + 1) (set xs i y)) ≡ turn_of K L R y ∷ told K L R (take i xs)
  told_more xs i y l = ap (told K L R) (take_more_set xs i y l) ∙ told_append (take i xs) (y ∷ [])

  -- the turns up to place k come before the others
  told_split : (xs : List (Turn S)) (k n : ℕ) → k ≤ n → told K L R (take n xs) ≡ told K L R (drop k (take n xs)) ++ told K L R (take k xs)
  told_split xs k n l =
      ap (told K L R) (sym (take-append-drop k (take n xs))) ∙ rw (told_append (take k (take n xs)) (drop k (take n xs)), take-take)

-- one turn of a list has its answer written
requests_kept : {S : Type 0} (xs : List (Turn S)) (i : ℕ) (x : Turn S) (r : Option (Result (Reply S) Refusal)) → i < length xs → x ≡ get_or xs i x →
    map (λ y. y.request) (set xs i (record { request = x.request; reply = r })) ≡ map (λ y. y.request) xs
requests_kept {S} xs i x r l read =
    map-set (λ (y : Turn S). y.request) xs i (record { request = x.request; reply = r })
    ∙ ap (set (map (λ (y : Turn S). y.request) xs) i) (ap (λ (y : Turn S). y.request) read ∙ sym (get_or-map (λ (y : Turn S). y.request) xs i x x.request l))
    ∙ set-get_or (map (λ (y : Turn S). y.request) xs) i x.request

-- the first `done` requests were done, and led from `before` to `reached`
pub record SoFar {S : Type 0} (K : Kind S) (left right : Family S) (before : Stage S) (turns after : List (Turn S)) (done : ℕ) (reached : Stage S) : Type 0 where
  pub some : done ≤ length turns
  pub long : length after ≡ length turns
  pub requests : map (λ x. x.request) after ≡ map (λ x. x.request) turns
  pub untouched : drop done after ≡ drop done turns
  pub room : RoomKept (stage_table before) (stage_table reached)
  pub frame : stage_frame K reached ≡ stage_frame K before
  pub leads : Countable K → Led (stage_frame K before) (model K left) (model K right) (stage_moment K before) (told K (model K left) (model K right) (take done after)) (stage_moment K reached)

module _ {S : Type 0} (K : Kind S) (left right : Family S) where
  -- a request that changes nothing
  pub unchanged : (stage : Stage S) (x : Request) (r : Option (Result (Reply S) Refusal)) → Replies K left right stage x stage r → TakesOne K left right stage x (record { stage = stage; reply = r })
  unchanged stage x r h = record { room = room_refl (stage_table stage); frame = refl; replies = h }

  abbrev L : theory.Family
  L = model K left

  abbrev R : theory.Family
  R = model K right

  pub none_yet : (before : Stage S) (turns : List (Turn S)) → SoFar K left right before turns turns 0 before
  none_yet before turns =
      record { some = omega arith; long = refl; requests = refl; untouched = refl; room = room_refl (stage_table before); frame = refl; leads = λ _. at_once }

  -- every number of the turns that were done keeps the promises
  module _ (law : (x : S) (v : ℕ) → K.holds x v ≡ true → v < K.variants) where
    promised : (from end : Moment) (turns : List (Turn S)) (done : ℕ) → Led (frame_of K.variants L R) L R from (told K L R (take done turns)) end →
        (k : ℕ) → k ≤ done → KeepsPromises K left right from (told K L R (take k turns))
    promised from end turns done led k l list earlier h =
        let upto = led_before (told K L R (drop k (take done turns))) (told K L R (take k turns)) (rw (told_split K L R turns k done l) at led) in
        let history = led_on earlier (told K L R (take k turns)) h upto.1 in
        (upto.0, history, (comparing_is_exact K.variants L R (K.holds list) (law list)).over_any_history (told K L R (take k turns) ++ earlier) upto.0 history)

    module _ (before : Stage S) (turns after : List (Turn S)) (done : ℕ) (reached : Stage S) (so_far : SoFar K left right before turns after done reached) where
      plays : (end : Stage S) → stage_moment K end ≡ stage_moment K reached → stage_frame K end ≡ stage_frame K reached → RoomKept (stage_table reached) (stage_table end) →
          ((x : Turn S) (rest : List (Turn S)) → drop done turns ≡ x ∷ rest → Takes (stage_moment K end) (call_of L R x.request) → ⊥) →
          Plays K left right before turns after (record { done = done; stage = end })
      plays end same same_frame room stops =
          record {
            some = so_far.some;
            requests = so_far.requests;
            untouched = so_far.untouched;
            room = room_trans (stage_table before) (stage_table reached) (stage_table end) so_far.room room;
            frame = same_frame ∙ so_far.frame;
            leads = leads;
            stops = stops;
            promises = λ few e k l.
                promised (stage_moment K before) (stage_moment K end) after done (rw e at (leads few)) k l;
          }
        where
          leads : Countable K → Led (stage_frame K before) L R (stage_moment K before) (told K L R (take done after)) (stage_moment K end)
          leads few = rw same (so_far.leads few)

      -- all requests were done
      pub all_done : length after ≤ done → Plays K left right before turns after (record { done = done; stage = reached })
      all_done l =
          plays reached refl refl (room_refl (stage_table reached))
          (λ x rest e _. let h : [] ≡ x ∷ rest = sym (drop_all done turns (omega (arith, so_far.long))) ∙ e in cc)

      module _ (l : done < length after) (x : Turn S) (read : x ≡ get_or after done x) (t : Taken S) (taken : TakesOne K left right reached x.request t) where
        -- the next one is not taken
        pub stopped : t.reply ≡ None → Plays K left right before turns after (record { done = done; stage = t.stage })
        stopped e =
            let h : Replies K left right reached x.request t.stage None = rw e at taken.replies in
            plays t.stage h.1 taken.frame taken.room (λ y rest is takes. h.0 (rw (here y rest is, h.1) at takes))
          where
            here : (y : Turn S) (rest : List (Turn S)) → drop done turns ≡ y ∷ rest → y ≡ x
            here y rest is =
                let p : get_or after done x ∷ drop (done + 1) after ≡ y ∷ rest = sym (drop_more after done x l) ∙ so_far.untouched ∙ is in
                cc

        -- the next one is done
        pub one_more : (r : Result (Reply S) Refusal) → t.reply ≡ Some r → SoFar K left right before turns (set after done (record { request = x.request; reply = Some r })) (done + 1) t.stage
        one_more r e =
            let y : Turn S = record { request = x.request; reply = Some r } in
            let h : Replies K left right reached x.request t.stage (Some r) = rw e at taken.replies in
            record {
              some = omega (arith, so_far.long);
              long = length-set after done y ∙ so_far.long;
              requests = requests_kept after done x (Some r) l read ∙ so_far.requests;
              untouched =
                  drop-set-lt (done + 1) after done y (omega arith)
                  ∙ sym (drop-drop 1 done after) ∙ ap (drop 1) so_far.untouched ∙ drop-drop 1 done turns;
              room = room_trans (stage_table before) (stage_table reached) (stage_table t.stage) so_far.room taken.room;
              frame = taken.frame ∙ so_far.frame;
              leads = λ few.
                  rw (told_more K L R after done y l)
                  (then (call_of L R x.request) (reply_answer K r) (so_far.leads few) (rw so_far.frame at (h few)) (own_families L R x.request (reply_answer K r)));
            }
