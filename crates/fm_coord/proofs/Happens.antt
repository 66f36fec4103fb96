-- An accepted call is its event at each replica that the coordinator stands for.
use Rattle.std.proofs.Common.{◌≡◌, ◌∙◌, ℕ, [], ◌∷◌, None, length, refl, sym, ap, subst}
use Rattle.fm_records.specs.declared.ops.Op.{Op}
use Rattle.fm_records.specs.Table.{Table}
use Rattle.fm_records.specs.Know.{table_of}
use Rattle.fm_delta.specs.declared.packet.Packet.{Packet}
use Rattle.fm_round.specs.declared.plan.Plan.{Plan}
use Rattle.fm_round.specs.declared.plan.Admitted.{Admitted}
use Rattle.fm_round.specs.Admission.{admission}
use Rattle.fm_coord.specs.declared.entry.Call.{Call}
use Rattle.fm_coord.specs.declared.entry.Call.TheVariants as call
use Rattle.fm_coord.specs.declared.entry.Reply.{Reply}
use Rattle.fm_coord.specs.declared.entry.Reply.TheVariants as reply
use Rattle.fm_coord.specs.declared.entry.Range.{Range}
use Rattle.fm_coord.specs.Events.{Sent, Event, Replica, happens}
use Rattle.fm_coord.specs.Events as event
use Rattle.fm_coord.specs.Causes.{cause}
use Rattle.fm_coord.specs.Replays.{seen_packet, call_of, reply_of}
use Rattle.fm_coord.specs.States.{State, bounds, history_entry, took, gave, after_trim, with_entry, cut_packet, after, Represents, IsEventAt}
use Rattle.fm_coord.specs.Outputs.{reply_to, answer_to}
use Rattle.fm_coord.proofs.StepLaws.{no_fault, many, same_bounds, packet_is, stands_after}

module _ (s : State) (r : Replica) (st : Represents s r) (by : ℕ) (new : State) where
  is_event : (event : Event) (reply : Reply) → cause (bounds s) (call_of event) ≡ None → reply ≡ reply_of r event → new ≡ after s (history_entry by (call_of event) reply) (call_of event) → IsEventAt r by event reply new
  is_event event reply none reply_is made =
      record {
        accepted = subst (λ b. cause b (call_of event) ≡ None) (same_bounds s r st) none;
        answered = reply_is;
        stands = subst (λ (t : State). Represents t (happens r by event)) (sym made) (stands_after s r st (history_entry by (call_of event) reply) event refl none);
      }

  pub told : (op : Op) → cause (bounds s) (call.Tell op) ≡ None → new ≡ took s (table_of (op ∷ [])) (history_entry by (call.Tell op) reply.Nothing) → IsEventAt r by (event.Tell op) reply.Nothing new
  told op none made = is_event (event.Tell op) reply.Nothing none refl made

  pub merged : (p : Packet) (sent : Sent) → p ≡ seen_packet sent → cause (bounds s) (call.Merge p) ≡ None → new ≡ took s p.value (history_entry by (call.Merge p) reply.Nothing) → IsEventAt r by (event.Merge sent) reply.Nothing new
  merged p sent is none made =
      is_event (event.Merge sent) reply.Nothing (subst (λ (q : Packet). cause (bounds s) (call.Merge q) ≡ None) is none) refl
      (made ∙ (λ i. took s (is i).value (history_entry by (call.Merge (is i)) reply.Nothing)))

  pub gave_packet : (range : Range) (p : Packet) → p ≡ cut_packet s range → cause (bounds s) (call.Cut range) ≡ None → new ≡ gave s (history_entry by (call.Cut range) (reply.Packet p)) → IsEventAt r by (event.Cut range) (reply.Packet p) new
  gave_packet range p is none made = is_event (event.Cut range) (reply.Packet p) none (ap (λ (q : Packet). reply.Packet q) (is ∙ packet_is s r st range (no_fault _ _ none))) made

  pub let_below : (n : ℕ) → cause (bounds s) (call.Trim n) ≡ None → new ≡ after_trim s n (history_entry by (call.Trim n) reply.Nothing) → IsEventAt r by (event.Trim n) reply.Nothing new
  let_below n none made = is_event (event.Trim n) reply.Nothing none refl made

  pub viewed : (at : ℕ) (known : Table) → at ≡ length s.history → known ≡ s.knowledge → cause (bounds s) call.View ≡ None → new ≡ with_entry s (history_entry by call.View (reply.Seen at known)) → IsEventAt r by event.View (reply.Seen at known) new
  viewed at known at_is known_is none made =
      let count = at_is ∙ many s r st in
      let all = known_is ∙ st.knowledge in
      is_event event.View (reply.Seen at known) none (λ i. reply.Seen (count i) (all i)) made

  pub committed : (plan : Plan) (a : Admitted) → a ≡ admission s.knowledge s.number plan → cause (bounds s) (call.Commit plan) ≡ None → new ≡ took s (table_of a.ops) (history_entry by (call.Commit plan) (reply.Admitted a)) → IsEventAt r by (event.Commit plan) (reply.Admitted a) new
  committed plan a is none made =
      let known = st.knowledge in
      let number = st.number in
      is_event (event.Commit plan) (reply.Admitted a) none (ap (λ (b : Admitted). reply.Admitted b) is ∙ (λ i. reply.Admitted (admission (known i) (number i) plan)))
      (made ∙ ap (λ (b : Admitted). took s (table_of b.ops) (history_entry by (call.Commit plan) (reply.Admitted a))) is)

  -- what the call of an event is answered is the event's reply
  said_is : (event : Event) → cause (bounds s) (call_of event) ≡ None → reply_to (answer_to s (call_of event)) ≡ reply_of r event
  said_is (event.Tell op) none = refl
  said_is (event.Merge p) none = refl
  said_is (event.Cut range) none = ap (λ (p : Packet). reply.Packet p) (packet_is s r st range (no_fault _ _ none))
  said_is (event.Trim n) none = refl
  said_is event.View none =
      let at = many s r st in
      let known = st.knowledge in
      λ i. reply.Seen (at i) (known i)
  said_is (event.Commit plan) none =
      let known = st.knowledge in
      let number = st.number in
      λ i. reply.Admitted (admission (known i) (number i) plan)

  -- any call that is accepted is its event
  pub came : (c : Call) (reply : Reply) (event : Event) → c ≡ call_of event → cause (bounds s) c ≡ None → reply ≡ reply_to (answer_to s c) → new ≡ after s (history_entry by c reply) c → IsEventAt r by event (reply_of r event) new
  came c reply event is none answer made =
      let here : cause (bounds s) (call_of event) ≡ None = subst (λ d. cause (bounds s) d ≡ None) is none in
      let replies : reply ≡ reply_of r event = answer ∙ ap (λ d. reply_to (answer_to s d)) is ∙ said_is event here in
      is_event event (reply_of r event) here refl (made ∙ (λ i. after s (history_entry by (is i) (replies i)) (is i)))
