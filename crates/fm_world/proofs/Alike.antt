-- Replicas that took in other sets, which come to the same.
use Rattle.std.specs.Prelude.{option_map, ◌-◌}
use Rattle.std.proofs.Common.{◌≡◌, ℕ, ◌+◌, Bool, true, false, cond, List, [], ◌∷◌, ◌++◌, Option, Some, None, length, take, drop, map, not, suc, arith, refl, sym, ap, ◌∙◌, subst, inl, inr}
use Rattle.std.specs.Bool.{Decides}
use Rattle.std.specs.List.{slice_get, slice_range, position_or_len}
use Rattle.std.proofs.lemmas.List.{map-append, drop-map, length-map, take-map}
use Rattle.fm_records.specs.declared.ops.Op.{Op}
use Rattle.fm_records.specs.Sets.{IsMember}
use Rattle.fm_records.specs.Know.{table_of}
use Rattle.fm_records.specs.OpsOfTable.{ops}
use Rattle.fm_records.proofs.SpelledLaws.{know_ops}
use Rattle.fm_records.proofs.RangeLaws.{know_table}
use Rattle.fm_records.specs.Joined.{table_join}
use Rattle.fm_records.proofs.UnionLaws.{know_append}
use Rattle.fm_delta.specs.declared.packet.Packet.{Packet}
use Rattle.fm_delta.specs.Packets.{same_packet}
use Rattle.fm_delta.specs.laws.PacketLaws.{packet_Decides}
use Rattle.fm_delta.specs.Deltas.{joined_all}
use Rattle.fm_delta.proofs.GroupLaws.{joined_union}
use Rattle.fm_round.specs.Admission.{admission}
use Rattle.fm_coord.specs.declared.entry.Call.{Call}
use Rattle.fm_coord.specs.declared.entry.Call.TheVariants as call
use Rattle.fm_coord.specs.declared.entry.Reply.{Reply}
use Rattle.fm_coord.specs.declared.entry.Entry.{Entry}
use Rattle.fm_coord.specs.declared.entry.Range.{Range}
use Rattle.fm_coord.specs.declared.entry.Range.TheVariants.{Interval, Full}
use Rattle.fm_coord.specs.Events.{Sent, Event, Replica, with_set, with_step, happens, set_of, packet_of, admitted_by}
use Rattle.fm_coord.specs.Events as event
use Rattle.fm_coord.specs.Causes.{cause, bounds_of}
use Rattle.fm_coord.specs.Replays.{seen_packet, call_of, event_of, reply_of, after_entry, IsReplayed}
use Rattle.fm_coord.specs.States.{State, step_asked, Represents}
use Rattle.fm_world.specs.Worlds.{event_asked, cut_by}
use Rattle.fm_world.specs.Listings.{packet_in, IsGiven, act_for}

-- the sets that the two took in may be others, but come to the same
pub record Alike (a b : Replica) : Type 0 where
  pub number : a.number ≡ b.number
  pub limit : a.limit ≡ b.limit
  pub taken : table_of a.taken ≡ table_of b.taken
  pub buffer : map table_of a.buffer ≡ map table_of b.buffer
  pub floor : a.floor ≡ b.floor
  pub cuts : a.cuts ≡ b.cuts
  pub steps : map step_asked a.steps ≡ map step_asked b.steps

pub alike_self : (a : Replica) → Alike a a
alike_self a = record { number = refl; limit = refl; taken = refl; buffer = refl; floor = refl; cuts = refl; steps = refl }

module _ (a b : Replica) (al : Alike a b) where
  many : length a.steps ≡ length b.steps
  many = sym (length-map a.steps step_asked) ∙ ap length al.steps ∙ length-map b.steps step_asked

  long : length a.buffer ≡ length b.buffer
  long = sym (length-map a.buffer table_of) ∙ ap length al.buffer ∙ length-map b.buffer table_of

  -- what refusals turn on is the same
  pub alike_bounds : bounds_of a ≡ bounds_of b
  alike_bounds = λ i. record { limit = al.limit i; entries = many i; floor = al.floor i; end = long i }

  -- what stands for the one stands for the other
  pub alike_stands : (s : State) → Represents s b → Represents s a
  alike_stands s st = record {
    number = st.number ∙ sym al.number;
    limit = st.limit ∙ sym al.limit;
    knowledge = st.knowledge ∙ sym al.taken;
    deltas = st.deltas ∙ sym (drop-map table_of b.floor b.buffer) ∙ (λ i. drop (sym al.floor i) (sym al.buffer i)) ∙ drop-map table_of a.floor a.buffer;
    floor = st.floor ∙ sym al.floor;
    end = st.end ∙ sym long;
    cuts = st.cuts ∙ sym al.cuts;
    history = st.history ∙ sym al.steps;
  }

  -- a cut gives the same packet
  alike_set : (range : Range) → table_of (set_of a range) ≡ table_of (set_of b range)
  alike_set Full = al.taken
  alike_set (Interval from to) =
      sym (joined_union (slice_range a.buffer from to)) ∙ ap joined_all (ranged a.buffer b.buffer al.buffer) ∙ joined_union (slice_range b.buffer from to) where
        ranged : (xs ys : List (List Op)) → map table_of xs ≡ map table_of ys → map table_of (slice_range xs from to) ≡ map table_of (slice_range ys from to)
        ranged xs ys is =
            sym (ap (take (to - from)) (drop-map table_of from xs) ∙ take-map table_of (to - from) (drop from xs))
            ∙ ap (λ ks. take (to - from) (drop from ks)) is
            ∙ ap (take (to - from)) (drop-map table_of from ys) ∙ take-map table_of (to - from) (drop from ys)

  pub alike_packet : (range : Range) → seen_packet (packet_of a range) ≡ seen_packet (packet_of b range)
  alike_packet range = let value = alike_set range in λ i. record { sender = al.number i; number = al.cuts i + 1; value = value i }

  module _ (by : ℕ) (event other : Event) (same : call_of event ≡ call_of other) where
    steps_on : map step_asked (a.steps ++ (by, event) ∷ []) ≡ map step_asked (b.steps ++ (by, other) ∷ [])
    steps_on = map-append step_asked a.steps ((by, event) ∷ []) ∙ (λ i. al.steps i ++ (by, same i) ∷ []) ∙ sym (map-append step_asked b.steps ((by, other) ∷ []))

    alike_added : (S T : List Op) → table_of S ≡ table_of T → Alike (with_step (with_set a S) by event) (with_step (with_set b T) by other)
    alike_added S T is = record {
      number = al.number;
      limit = al.limit;
      taken = know_append a.taken S ∙ (λ i. table_join (al.taken i) (is i)) ∙ sym (know_append b.taken T);
      buffer = map-append table_of a.buffer (S ∷ []) ∙ (λ i. al.buffer i ++ is i ∷ []) ∙ sym (map-append table_of b.buffer (T ∷ []));
      floor = al.floor;
      cuts = al.cuts;
      steps = steps_on;
    }

  -- the same event
  pub alike_happens : (by : ℕ) (event : Event) → Alike (happens a by event) (happens b by event)
  alike_happens by (event.Tell op) = alike_added by (event.Tell op) (event.Tell op) refl (op ∷ []) (op ∷ []) refl
  alike_happens by (event.Merge p) = alike_added by (event.Merge p) (event.Merge p) refl p.set p.set refl
  alike_happens by (event.Cut range) = record { number = al.number; limit = al.limit; taken = al.taken; buffer = al.buffer; floor = al.floor; cuts = ap (λ n. n + 1) al.cuts; steps = steps_on by (event.Cut range) (event.Cut range) refl }
  alike_happens by (event.Trim n) = record { number = al.number; limit = al.limit; taken = al.taken; buffer = al.buffer; floor = refl; cuts = al.cuts; steps = steps_on by (event.Trim n) (event.Trim n) refl }
  alike_happens by event.View = record { number = al.number; limit = al.limit; taken = al.taken; buffer = al.buffer; floor = al.floor; cuts = al.cuts; steps = steps_on by event.View event.View refl }
  alike_happens by (event.Commit plan) =
      let ops_same : (admitted_by a plan).ops ≡ (admitted_by b plan).ops = λ i. (admission (al.taken i) (al.number i) plan).ops in
      alike_added by (event.Commit plan) (event.Commit plan) refl (admitted_by a plan).ops (admitted_by b plan).ops (ap table_of ops_same)

  -- a packet, and another that comes to the same: here is what the world delivers, there what the history replays
  pub alike_merged : (by : ℕ) (p q : Sent) → seen_packet p ≡ seen_packet q → Alike (happens a by (event.Merge p)) (happens b by (event.Merge q))
  alike_merged by p q is = alike_added by (event.Merge p) (event.Merge q) (ap (λ (x : Packet). call.Merge x) is) p.set q.set (ap (λ (x : Packet). x.value) is)

-- a packet of the world that is equal to the one that is merged
pub record IsFound (p : Packet) (o : Option Sent) : Type 0 where
  pub packet : Sent
  pub there : o ≡ Some packet
  pub is : seen_packet packet ≡ p

abbrev pub Found : Packet → List Sent → Type 0
Found p sent = IsFound p (slice_get sent (position_or_len (λ q. same_packet q p) (map seen_packet sent)))

one_more : (x : Sent) (sent : List Sent) (n : ℕ) → slice_get (x ∷ sent) (1 + n) ≡ slice_get sent n
one_more x sent n = let is : 1 + n ≡ suc n = omega arith in ap (slice_get (x ∷ sent)) is

pub earliest : (p : Packet) (sent : List Sent) → IsMember p (map seen_packet sent) → Found p sent
earliest p [] h = absurd h
earliest p (x ∷ sent) h = by (same_packet (seen_packet x) p) (packet_Decides (seen_packet x) p) h (earliest p sent) where
  by : (b : Bool) → Decides b (seen_packet x ≡ p) → IsMember p (map seen_packet (x ∷ sent)) → (IsMember p (map seen_packet sent) → Found p sent) → IsFound p (slice_get (x ∷ sent) (cond (not b) (1 + position_or_len (λ q. same_packet q p) (map seen_packet sent)) 0))
  by true d h rest = record { packet = x; there = refl; is = d.0 refl }
  by false d (inl e) rest = absurd (let is = d.1 e in let no : ⊥ = cc in no)
  by false d (inr h) rest = let f = rest h in record { packet = f.packet; there = one_more x sent (position_or_len (λ q. same_packet q p) (map seen_packet sent)) ∙ f.there; is = f.is }

-- an entry that fits the replayed replica, taken as a step by one that is alike
pub record Taken (a b : Replica) (sent : List Sent) (ps : List Packet) (e : Entry) : Type 0 where
  pub event : Event
  pub asks : event_asked sent (act_for ps e.call) ≡ Some event
  pub accepted : cause (bounds_of a) (call_of event) ≡ None
  pub after : Alike (happens a e.by event) (after_entry b e)
  pub cut : map seen_packet (cut_by a (Some event)) ≡ packet_in e.reply

module _ (a b : Replica) (al : Alike a b) (sent : List Sent) where
  -- the event of a call is the step's, but for a merge
  plain : (by : ℕ) (event : Event) (c : Call) (r : Reply) → call_of event ≡ c → event_of c ≡ event →
      (act : event_asked sent (act_for (map seen_packet sent) c) ≡ Some event) → IsReplayed b (record { by = by; call = c; reply = r }) → map
      seen_packet (cut_by a (Some event)) ≡ packet_in (reply_of b event) → Taken a b sent (map seen_packet sent)
      (record { by = by; call = c; reply = r })
  plain by event c r calls events asks fits cut = record {
    event = event;
    asks = asks;
    accepted = (λ i. cause (alike_bounds a b al i) (calls i)) ∙ fits.accepted;
    after = subst (λ (o : Event). Alike (happens a by event) (happens b by o)) (sym events) (alike_happens a b al by event);
    cut = cut ∙ sym (ap packet_in (fits.reply ∙ ap (reply_of b) events));
  }

  take_one : (by : ℕ) (c : Call) (r : Reply) → IsReplayed b (record { by = by; call = c; reply = r }) → IsGiven (map seen_packet sent) c → Taken a b sent (map seen_packet sent) (record { by = by; call = c; reply = r })
  take_one by (call.Tell op) r f g = plain by (event.Tell op) (call.Tell op) r refl refl refl f refl
  take_one by (call.Cut range) r f g = plain by (event.Cut range) (call.Cut range) r refl refl refl f (λ i. alike_packet a b al range i ∷ [])
  take_one by (call.Trim n) r f g = plain by (event.Trim n) (call.Trim n) r refl refl refl f refl
  take_one by call.View r f g = plain by event.View call.View r refl refl refl f refl
  take_one by (call.Commit plan) r f g = plain by (event.Commit plan) (call.Commit plan) r refl refl refl f refl
  take_one by (call.Merge p) r f g =
      let q : Found p sent = earliest p sent g in
      let value : table_of q.packet.set ≡ p.value = ap (λ (x : Packet). x.value) q.is in
      let back : p.value ≡ table_of (ops p.value) = sym value ∙ know_ops (table_of q.packet.set) (know_table q.packet.set) ∙ ap (λ k. table_of (ops k)) value in
      let same : seen_packet q.packet ≡ seen_packet (record { sender = p.sender; number = p.number; set = ops p.value }) = q.is ∙ (λ i. record { sender = p.sender; number = p.number; value = back i }) in
      record {
        event = event.Merge q.packet;
        asks = ap (λ (o : Option Sent). option_map event.Merge o) q.there;
        accepted = (λ i. cause (alike_bounds a b al i) (call.Merge (q.is i))) ∙ f.accepted;
        after = alike_merged a b al by q.packet (record { sender = p.sender; number = p.number; set = ops p.value }) same;
        cut = sym (ap packet_in f.reply);
      }

pub taken : (a b : Replica) → Alike a b → (sent : List Sent) (e : Entry) → IsReplayed b e → IsGiven (map seen_packet sent) e.call → Taken a b sent (map seen_packet sent) e
taken a b al sent e f g = take_one a b al sent e.by e.call e.reply f g

pub number_stays : (r : Replica) (by : ℕ) (event : Event) → r.number ≡ (happens r by event).number
number_stays r by (event.Tell op) = refl
number_stays r by (event.Merge p) = refl
number_stays r by (event.Cut range) = refl
number_stays r by (event.Trim n) = refl
number_stays r by event.View = refl
number_stays r by (event.Commit plan) = refl
