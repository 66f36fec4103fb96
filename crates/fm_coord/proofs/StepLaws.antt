-- A coordinator that stands for a replica still does after each call that is accepted.
use Rattle.std.proofs.Common.{◌≡◌, ◌≤◌, ℕ, ◌+◌, ◌-◌, Bool, true, false, cond, nat_lt, ◌||◌, List, [], ◌∷◌, ◌++◌, Option, Some, None, length, take, drop, map, refl, sym, ap, ◌∙◌, arith, length-append, drop-drop, ltb-false}
use Rattle.std.proofs.lemmas.List.{map-append, drop-append-le, drop-map, length-map, take-map, length-drop}
use Rattle.fm_records.specs.declared.ops.Op.{Op}
use Rattle.fm_records.specs.declared.refusal.Refusal.TheVariants.{BadInterval}
use Rattle.fm_records.specs.Table.{Table}
use Rattle.fm_records.specs.Know.{table_of}
use Rattle.fm_records.specs.Joined.{table_join}
use Rattle.fm_records.proofs.UnionLaws.{know_append}
use Rattle.fm_delta.specs.Deltas.{end_of, joined_all}
use Rattle.fm_delta.proofs.GroupLaws.{joined_union}
use Rattle.fm_round.specs.Admission.{admission}
use Rattle.fm_coord.specs.declared.entry.Call.{Call}
use Rattle.fm_coord.specs.declared.entry.Entry.{Entry}
use Rattle.fm_coord.specs.declared.entry.Range.{Range}
use Rattle.fm_coord.specs.declared.entry.Range.TheVariants.{Interval, Full}
use Rattle.fm_coord.specs.Events.{Event, Replica, with_set, with_step, happens, set_of, packet_of, admitted_by}
use Rattle.fm_coord.specs.Events as event
use Rattle.fm_coord.specs.Causes.{Bounds, cause, call_fault, range_fault, floor_fault, room_fault, first_some, bounds_of}
use Rattle.fm_coord.specs.Replays.{seen_packet, call_of, after_entry, replay, IsReplayed, IsLegal}
use Rattle.fm_coord.specs.States.{State, bounds, took, gave, after_trim, with_entry, caller_and_call, step_asked, range_value, cut_packet, after, Represents}

some_none : {A : Type 0} {P : Type 0} (a : A) → Some a ≡ None → P
some_none a e = absurd (let no : ⊥ = cc in no)

-- if there is no cause, nothing is wrong with the call, and there is room
pub no_fault : {A : Type 0} (a b : Option A) → first_some a b ≡ None → a ≡ None
no_fault None b h = refl
no_fault (Some a) b h = some_none a h

pub second_is_none : {A : Type 0} (a b : Option A) → first_some a b ≡ None → b ≡ None
second_is_none None b h = h
second_is_none (Some a) b h = some_none a h

-- where nothing comes of a test, it failed
pub test_failed : {A : Type 0} (b : Bool) (a : A) (o : Option A) → cond b (Some a) o ≡ None → b ≡ false
test_failed true a o h = some_none a h
test_failed false a o h = refl

pub then_none : {A : Type 0} (b : Bool) (a : A) (o : Option A) → cond b (Some a) o ≡ None → o ≡ None
then_none true a o h = some_none a h
then_none false a o h = h

pub left_false : (a b : Bool) → (a || b) ≡ false → a ≡ false
left_false true b h = h
left_false false b h = refl

pub right_false : (a b : Bool) → (a || b) ≡ false → b ≡ false
right_false true b h = absurd (let no : ⊥ = cc in no)
right_false false b h = h

-- an interval without a fault starts at the floor or above
pub starts_above : (b : Bounds) (from to : ℕ) → range_fault b (Interval from to) ≡ None → b.floor ≤ from
starts_above b from to h = ltb-false from b.floor (test_failed _ _ _ (then_none _ _ _ h))

pub replay_more : (r : Replica) (es : List Entry) (e : Entry) → replay r (es ++ e ∷ []) ≡ after_entry (replay r es) e
replay_more r [] e = refl
replay_more r (x ∷ es) e = replay_more (after_entry r x) es e

pub legal_more : (r : Replica) (es : List Entry) (e : Entry) → IsLegal r es → IsReplayed (replay r es) e → IsLegal r (es ++ e ∷ [])
legal_more r [] e h f = (f, tt)
legal_more r (x ∷ es) e h f = (h.0, legal_more (after_entry r x) es e h.1 f)

module _ (s : State) (r : Replica) (st : Represents s r) where
  low : r.floor ≤ length r.buffer
  low = let e = st.end in let f = st.floor in omega arith

  pub many : length s.history ≡ length r.steps
  many = sym (length-map s.history caller_and_call) ∙ ap length st.history ∙ length-map r.steps step_asked

  -- what its refusals turn on is what the replica's do
  pub same_bounds : bounds s ≡ bounds_of r
  same_bounds = λ i. record { limit = st.limit i; entries = many i; floor = st.floor i; end = st.end i }

  -- what stands from a place on
  from_on : (n : ℕ) → r.floor ≤ n → drop (n - s.deltas.floor) s.deltas.kept ≡ map table_of (drop n r.buffer)
  from_on n h =
      ap (drop (n - s.deltas.floor)) st.deltas ∙ drop-map table_of (n - s.deltas.floor) (drop r.floor r.buffer)
      ∙ ap (map table_of) (drop-drop (n - s.deltas.floor) r.floor r.buffer ∙ ap (λ k. drop k r.buffer) (let f = st.floor in let is : r.floor + (n - s.deltas.floor) ≡ n = omega arith in is))

  -- the knowledge of a range is the table of its sets
  pub range_is : (range : Range) → range_fault (bounds s) range ≡ None → range_value s range ≡ table_of (set_of r range)
  range_is Full h = st.knowledge
  range_is (Interval from to) h =
      let above : s.deltas.floor ≤ from = starts_above (bounds s) from to h in
      let f = st.floor in
      let width : (to - s.deltas.floor) - (from - s.deltas.floor) ≡ to - from = omega arith in
      ap (λ n. joined_all (take n (drop (from - s.deltas.floor) s.deltas.kept))) width
      ∙ ap (λ ks. joined_all (take (to - from) ks)) (from_on from (omega arith))
      ∙ ap joined_all (take-map table_of (to - from) (drop from r.buffer))
      ∙ joined_union (take (to - from) (drop from r.buffer))

  pub packet_is : (range : Range) → range_fault (bounds s) range ≡ None → cut_packet s range ≡ seen_packet (packet_of r range)
  packet_is range h = let value = range_is range h in λ i. record { sender = st.number i; number = st.cuts i + 1; value = value i }

  module _ (e : Entry) (by : ℕ) (event : Event) (same : caller_and_call e ≡ step_asked (by, event)) where
    asked_on : map caller_and_call (s.history ++ e ∷ []) ≡ map step_asked (r.steps ++ (by, event) ∷ [])
    asked_on = map-append caller_and_call s.history (e ∷ []) ∙ (λ i. st.history i ++ same i ∷ []) ∙ sym (map-append step_asked r.steps ((by, event) ∷ []))

    stands_took : (S : List Op) (d : Table) → table_of S ≡ d → Represents (took s d e) (with_step (with_set r S) by event)
    stands_took S d is =
        let back = sym is in
        record {
          number = st.number;
          limit = st.limit;
          knowledge = (λ i. table_join (st.knowledge i) (back i)) ∙ sym (know_append r.taken S);
          deltas = (λ i. st.deltas i ++ back i ∷ []) ∙ sym (map-append table_of (drop r.floor r.buffer) (S ∷ [])) ∙ ap (map table_of) (sym (drop-append-le r.floor r.buffer (S ∷ []) low));
          floor = st.floor;
          end = let e = st.end in omega (arith, length-append s.deltas.kept (d ∷ []), length-append r.buffer (S ∷ []));
          cuts = st.cuts;
          history = asked_on;
        }

    stands_gave : Represents (gave s e) (with_step (record { number = r.number; limit = r.limit; taken = r.taken; buffer = r.buffer; floor = r.floor; cuts = r.cuts + 1; steps = r.steps }) by event)
    stands_gave = record { number = st.number; limit = st.limit; knowledge = st.knowledge; deltas = st.deltas; floor = st.floor; end = st.end; cuts = ap (λ n. n + 1) st.cuts; history = asked_on }

    stands_let_go : (n : ℕ) → r.floor ≤ n → n ≤ length r.buffer → Represents (after_trim s n e) (with_step (record { number = r.number; limit = r.limit; taken = r.taken; buffer = r.buffer; floor = n; cuts = r.cuts; steps = r.steps }) by event)
    stands_let_go n above below =
        record {
          number = st.number;
          limit = st.limit;
          knowledge = st.knowledge;
          deltas = from_on n above;
          floor = refl;
          end = let e = st.end in let f = st.floor in omega (arith, length-drop (n - s.deltas.floor) s.deltas.kept);
          cuts = st.cuts;
          history = asked_on;
        }

    stands_noted : Represents (with_entry s e) (with_step r by event)
    stands_noted = record { number = st.number; limit = st.limit; knowledge = st.knowledge; deltas = st.deltas; floor = st.floor; end = st.end; cuts = st.cuts; history = asked_on }

  -- after an accepted call it stands for the replica after the event by which the call comes
  pub stands_after : (e : Entry) (event : Event) → e.call ≡ call_of event → cause (bounds s) (call_of event) ≡ None → Represents (after s e (call_of event)) (happens r e.by event)
  stands_after e (event.Tell op) is h = stands_took e e.by (event.Tell op) (λ i. (e.by, is i)) (op ∷ []) (table_of (op ∷ [])) refl
  stands_after e (event.Merge p) is h = stands_took e e.by (event.Merge p) (λ i. (e.by, is i)) p.set (table_of p.set) refl
  stands_after e (event.Cut range) is h = stands_gave e e.by (event.Cut range) (λ i. (e.by, is i))
  stands_after e (event.Trim n) is h =
      let out = test_failed (nat_lt n s.deltas.floor || nat_lt (end_of s.deltas) n) BadInterval None (no_fault (floor_fault (bounds s) n) (room_fault (bounds s)) h) in
      let above : s.deltas.floor ≤ n = ltb-false n s.deltas.floor (left_false (nat_lt n s.deltas.floor) (nat_lt (end_of s.deltas) n) out) in
      let below : n ≤ end_of s.deltas = ltb-false (end_of s.deltas) n (right_false (nat_lt n s.deltas.floor) (nat_lt (end_of s.deltas) n) out) in
      let f = st.floor in
      let l = st.end in
      stands_let_go e e.by (event.Trim n) (λ i. (e.by, is i)) n (omega arith) (omega arith)
  stands_after e event.View is h = stands_noted e e.by event.View (λ i. (e.by, is i))
  stands_after e (event.Commit plan) is h =
      stands_took e e.by (event.Commit plan) (λ i. (e.by, is i)) (admitted_by r plan).ops (table_of (admission s.knowledge s.number plan).ops)
      (sym (λ i. table_of (admission (st.knowledge i) (st.number i) plan).ops))

-- nothing is wrong with the call, and there is room
pub no_cause : (b : Bounds) (c : Call) → call_fault b c ≡ None → room_fault b ≡ None → cause b c ≡ None
no_cause b c fault room = ap (λ o. first_some o (room_fault b)) fault ∙ room
