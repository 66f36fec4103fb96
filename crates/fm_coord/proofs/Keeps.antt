-- Each accepted call keeps what holds of every coordinator.
use Rattle.std.proofs.Common.{◌≡◌, ◌≤◌, ◌<◌, ℕ, ◌+◌, false, nat_le, List, [], ◌∷◌, ◌++◌, None, length, refl, sym, ap, ◌∙◌, subst, arith, length-append, rules, tests}
use Rattle.fm_records.specs.declared.ops.Op.{Op}
use Rattle.fm_records.specs.Know.{table_of}
use Rattle.fm_records.specs.OpsOfTable.{IsTable}
use Rattle.fm_records.proofs.SpelledLaws.{know_ops}
use Rattle.fm_delta.specs.declared.packet.Packet.{Packet}
use Rattle.fm_round.specs.declared.plan.Plan.{Plan}
use Rattle.fm_round.specs.Admission.{admission}
use Rattle.fm_coord.specs.declared.entry.Call.{Call}
use Rattle.fm_coord.specs.declared.entry.Call.TheVariants as call
use Rattle.fm_coord.specs.declared.entry.Reply.TheVariants as reply
use Rattle.fm_coord.specs.declared.entry.Entry.{Entry}
use Rattle.fm_coord.specs.declared.entry.Range.{Range}
use Rattle.fm_coord.specs.Events.{Event, Replica, opening, after_event, admitted_by}
use Rattle.fm_coord.specs.Events as event
use Rattle.fm_coord.specs.Causes.{cause, Bounds}
use Rattle.fm_coord.specs.Replays.{call_of, event_of, reply_of, after_entry, replay, IsLegal}
use Rattle.fm_coord.specs.States.{State, new_state, history_entry, bounds, took, gave, after_trim, with_entry, cut_packet, after, Represents, replay_of, IsCoordinator}
use Rattle.fm_coord.proofs.StepLaws.{no_fault, second_is_none, test_failed, replay_more, legal_more, many, same_bounds, packet_is, stands_after}

pub new_is : (number limit : ℕ) → IsCoordinator (new_state number limit)
new_is number limit = record {
  legal = tt;
  stands = record { number = refl; limit = refl; knowledge = refl; deltas = refl; floor = refl; end = refl; cuts = refl; history = refl };
  within = omega arith;
  end_within = omega arith;
  cuts_within = omega arith;
}

-- a packet that is merged has a value of the form that operations come to
abbrev pub HasTable : Call → Type 0
HasTable (call.Tell op) = Unit {0}
HasTable (call.Merge p) = IsTable p.value
HasTable (call.Cut range) = Unit {0}
HasTable (call.Trim n) = Unit {0}
HasTable call.View = Unit {0}
HasTable (call.Commit plan) = Unit {0}

below : (limit entries : ℕ) → nat_le limit entries ≡ false → entries < limit
below limit entries h = search (rules, tests)

-- what an event comes by is the call that it is made of
again : (c : Call) → HasTable c → c ≡ call_of (event_of c)
again (call.Tell op) t = refl
again (call.Merge p) t = let value = know_ops p.value t in λ i. call.Merge (record { sender = p.sender; number = p.number; value = value i })
again (call.Cut range) t = refl
again (call.Trim n) t = refl
again call.View t = refl
again (call.Commit plan) t = refl

-- an event adds a delta at most, and counts a cut at most
one_delta : (r : Replica) (event : Event) → length (after_event r event).buffer ≤ length r.buffer + 1
one_delta r (event.Tell op) = omega (arith, length-append r.buffer ((op ∷ []) ∷ []))
one_delta r (event.Merge p) = omega (arith, length-append r.buffer (p.set ∷ []))
one_delta r (event.Cut range) = omega arith
one_delta r (event.Trim n) = omega arith
one_delta r event.View = omega arith
one_delta r (event.Commit plan) = omega (arith, length-append r.buffer ((admitted_by r plan).ops ∷ []))

one_cut : (r : Replica) (event : Event) → (after_event r event).cuts ≤ r.cuts + 1
one_cut r (event.Tell op) = omega arith
one_cut r (event.Merge p) = omega arith
one_cut r (event.Cut range) = omega arith
one_cut r (event.Trim n) = omega arith
one_cut r event.View = omega arith
one_cut r (event.Commit plan) = omega arith

module _ (s : State) (e : Entry) where
  number_stays : (c : Call) → (after s e c).number ≡ s.number
  number_stays (call.Tell op) = refl
  number_stays (call.Merge p) = refl
  number_stays (call.Cut range) = refl
  number_stays (call.Trim n) = refl
  number_stays call.View = refl
  number_stays (call.Commit plan) = refl

  limit_stays : (c : Call) → (after s e c).limit ≡ s.limit
  limit_stays (call.Tell op) = refl
  limit_stays (call.Merge p) = refl
  limit_stays (call.Cut range) = refl
  limit_stays (call.Trim n) = refl
  limit_stays call.View = refl
  limit_stays (call.Commit plan) = refl

  one_entry : (c : Call) → (after s e c).history ≡ s.history ++ e ∷ []
  one_entry (call.Tell op) = refl
  one_entry (call.Merge p) = refl
  one_entry (call.Cut range) = refl
  one_entry (call.Trim n) = refl
  one_entry call.View = refl
  one_entry (call.Commit plan) = refl

-- there is room for an entry if the call has no cause
room_left : (b : Bounds) (c : Call) → cause b c ≡ None → b.entries < b.limit
room_left b c h = below b.limit b.entries (test_failed _ _ _ (second_is_none _ _ h))

module _ (s : State) (is : IsCoordinator s) (e : Entry) (t : HasTable e.call) (h : cause (bounds s) e.call ≡ None) (replied : e.reply ≡ reply_of (replay_of s) (event_of e.call)) where
  abbrev start : Replica
  start = opening s.number s.limit

  abbrev now : Replica
  now = replay_of s

  abbrev left : State
  left = after s e e.call

  same : e.call ≡ call_of (event_of e.call)
  same = again e.call t

  stood : Represents left (after_entry now e)
  stood =
      subst (λ c. Represents (after s e c) (after_entry now e)) (sym same)
      (stands_after s now is.stands e (event_of e.call) same (subst (λ c. cause (bounds s) c ≡ None) same h))

  legal : IsLegal start (s.history ++ e ∷ [])
  legal = legal_more start s.history e is.legal (record { accepted = subst (λ b. cause b e.call ≡ None) (same_bounds s now is.stands) h; reply = replied })

  parts : ◌≡◌ {A = ℕ × ℕ × List Entry} (left.number, left.limit, left.history) (s.number, s.limit, s.history ++ e ∷ [])
  parts = λ i. (number_stays s e e.call i, limit_stays s e e.call i, one_entry s e e.call i)

  pub keeps : IsCoordinator left
  keeps =
      let room = room_left (bounds s) e.call h in
      let history = one_entry s e e.call in
      let longer : length left.history ≡ length s.history + 1 = ap length history ∙ length-append s.history (e ∷ []) in
      let limit = limit_stays s e e.call in
      let deltas = one_delta now (event_of e.call) in
      let cuts = one_cut now (event_of e.call) in
      let end_was = is.stands.end in
      let end_is = stood.end in
      let cuts_were = is.stands.cuts in
      let cuts_are = stood.cuts in
      let end_within = is.end_within in
      let cuts_within = is.cuts_within in
      record {
        legal = subst (λ (p : ℕ × ℕ × List Entry). IsLegal (opening p.0 p.1) p.2) (sym parts) legal;
        stands =
            subst (λ (p : ℕ × ℕ × List Entry). Represents left (replay (opening p.0 p.1) p.2)) (sym parts)
            (subst (λ r. Represents left r) (sym (replay_more start s.history e)) stood);
        within = omega arith;
        end_within = omega arith;
        cuts_within = omega arith;
      }

-- call by call

module _ (s : State) (is : IsCoordinator s) (by : ℕ) where
  pub keeps_tell : (op : Op) → cause (bounds s) (call.Tell op) ≡ None → IsCoordinator (took s (table_of (op ∷ [])) (history_entry by (call.Tell op) reply.Nothing))
  keeps_tell op h = keeps s is (history_entry by (call.Tell op) reply.Nothing) tt h refl

  pub keeps_merge : (p : Packet) → IsTable p.value → cause (bounds s) (call.Merge p) ≡ None → IsCoordinator (took s p.value (history_entry by (call.Merge p) reply.Nothing))
  keeps_merge p t h = keeps s is (history_entry by (call.Merge p) reply.Nothing) t h refl

  pub keeps_cut : (range : Range) → cause (bounds s) (call.Cut range) ≡ None → IsCoordinator (gave s (history_entry by (call.Cut range) (reply.Packet (cut_packet s range))))
  keeps_cut range h = keeps s is (history_entry by (call.Cut range) (reply.Packet (cut_packet s range))) tt h (ap (λ (p : Packet). reply.Packet p) (packet_is s (replay_of s) is.stands range (no_fault _ _ h)))

  pub keeps_trim : (n : ℕ) → cause (bounds s) (call.Trim n) ≡ None → IsCoordinator (after_trim s n (history_entry by (call.Trim n) reply.Nothing))
  keeps_trim n h = keeps s is (history_entry by (call.Trim n) reply.Nothing) tt h refl

  pub keeps_view : cause (bounds s) call.View ≡ None → IsCoordinator (with_entry s (history_entry by call.View (reply.Seen (length s.history) s.knowledge)))
  keeps_view h =
      let at = many s (replay_of s) is.stands in
      let known = is.stands.knowledge in
      keeps s is (history_entry by call.View (reply.Seen (length s.history) s.knowledge)) tt h (λ i. reply.Seen (at i) (known i))

  pub keeps_commit : (plan : Plan) → cause (bounds s) (call.Commit plan) ≡ None → IsCoordinator (took s (table_of (admission s.knowledge s.number plan).ops) (history_entry by (call.Commit plan) (reply.Admitted (admission s.knowledge s.number plan))))
  keeps_commit plan h =
      let known = is.stands.knowledge in
      let number = is.stands.number in
      keeps s is (history_entry by (call.Commit plan) (reply.Admitted (admission s.knowledge s.number plan))) tt h (λ i. reply.Admitted (admission (known i) (number i) plan))
