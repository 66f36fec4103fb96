-- An act at a coordinator that stands for a replica.
use Rattle.std.proofs.Common.{◌≡◌, ℕ, List, [], ◌∷◌, ◌++◌, Option, Some, None, Result, Ok, Err, map, option_map, slice_get, refl, sym, ap, ◌∙◌, subst}
use Rattle.std.specs.Result.{IfErr}
use Rattle.std.proofs.lemmas.List.{map-append, append-nil}
use Rattle.std.proofs.lemmas.Option.{slice_get-map}
use Rattle.fm_records.specs.declared.refusal.Refusal.{Refusal}
use Rattle.fm_records.specs.declared.refusal.Refusal.TheVariants.{OutOfMemory}
use Rattle.fm_records.specs.Options.{or_else}
use Rattle.fm_records.specs.Know.{table_of}
use Rattle.fm_records.specs.OpsOfTable.{ops}
use Rattle.fm_delta.specs.declared.packet.Packet.{Packet}
use Rattle.fm_coord.specs.declared.output.CallOutput.{CallOutput}
use Rattle.fm_coord.specs.declared.output.CallOutput.TheVariants as answer
use Rattle.fm_coord.specs.declared.entry.Call.{Call}
use Rattle.fm_coord.specs.declared.entry.Call.TheVariants as call
use Rattle.fm_coord.specs.Events.{Sent, Event, Replica}
use Rattle.fm_coord.specs.Events as event
use Rattle.fm_coord.specs.Causes.{cause, refusal_for}
use Rattle.fm_coord.specs.Replays.{seen_packet, call_of, reply_of}
use Rattle.fm_coord.specs.States.{State, bounds, Represents, IsEventAt}
use Rattle.fm_coord.specs.Outputs.{answer_to}
use Rattle.fm_coord.proofs.StepLaws.{no_fault, same_bounds, packet_is}
use Rattle.fm_world.specs.declared.step.Act.{Act}
use Rattle.fm_world.specs.declared.step.Act.TheVariants as act
use Rattle.fm_world.specs.Worlds.{spelled_out, event_asked, after_maybe, cut_by, cause_here}
use Rattle.fm_world.specs.inner.Calls.{call_asked, refusal_asked, IsSpelled}
use Rattle.fm_world.specs.inner.ActedWorld.{IsActed}

-- the packets after a call that was answered so
abbrev pub kept : List Packet → CallOutput → List Packet
kept ps answer.Done = ps
kept ps (answer.Packet p) = ps ++ p ∷ []
kept ps (answer.View v) = ps
kept ps (answer.Admitted a) = ps

some_is : {A : Type 0} {a b : A} → Some a ≡ Some b → a ≡ b
some_is e = cc

-- a packet is what the operations that spell it out come to
as_spelled : (p : Packet) → table_of (ops p.value) ≡ p.value → p ≡ seen_packet (spelled_out p)
as_spelled p e = λ i. record { sender = p.sender; number = p.number; value = (sym e) i }

delivered : (o : Option Sent) → option_map call.Merge (option_map seen_packet o) ≡ option_map call_of (option_map event.Merge o)
delivered None = refl
delivered (Some p) = refl

-- the call of an act is that of its event
pub asked_alike : (ps : List Packet) (sent : List Sent) (a : Act) → ps ≡ map seen_packet sent → IsSpelled a → call_asked ps a ≡ option_map call_of (event_asked sent a)
asked_alike ps sent (act.Tell op) is spelled = refl
asked_alike ps sent (act.Cut range) is spelled = refl
asked_alike ps sent (act.Deliver i) is spelled = ap (option_map call.Merge) (ap (λ qs. slice_get qs i) is ∙ slice_get-map seen_packet sent i) ∙ delivered (slice_get sent i)
asked_alike ps sent (act.Trim n) is spelled = refl
asked_alike ps sent act.View is spelled = refl
asked_alike ps sent (act.Commit plan) is spelled = refl
asked_alike ps sent (act.Take p) is spelled = ap (λ (q : Packet). Some (call.Merge q)) (as_spelled p spelled)

-- if there is a call, there is an event
record Comes (o : Option Event) (c : Call) : Type 0 where
  event : Event
  asks : o ≡ Some event
  is : c ≡ call_of event

comes : (o : Option Event) (c : Call) → option_map call_of o ≡ Some c → Comes o c
comes None c e = absurd (let no : ⊥ = cc in no)
comes (Some event) c e = record { event = event; asks = refl; is = sym (some_is e) }

module _ (s : State) (r : Replica) (st : Represents s r) (ps : List Packet) (sent : List Sent) (is : ps ≡ map seen_packet sent) where
  uncut : ps ≡ map seen_packet (sent ++ [])
  uncut = is ∙ ap (map seen_packet) (sym (append-nil sent))

  -- the packets after an event
  after_event : (event : Event) → cause (bounds s) (call_of event) ≡ None → kept ps (answer_to s (call_of event)) ≡ map seen_packet (sent ++ cut_by r (Some event))
  after_event (event.Tell op) none = uncut
  after_event (event.Merge p) none = uncut
  after_event (event.Cut range) none =
      let packet = packet_is s r st range (no_fault _ _ none) in
      (λ i. is i ++ packet i ∷ []) ∙ sym (map-append seen_packet sent _)
  after_event (event.Trim n) none = uncut
  after_event event.View none = uncut
  after_event (event.Commit plan) none = uncut

  refused_on : (o : Option Event) → refusal_asked (bounds s) (option_map call_of o) ≡ or_else OutOfMemory (cause_here r o)
  refused_on None = refl
  refused_on (Some event) = ap (λ b. refusal_for b (call_of event)) (same_bounds s r st)

  module _ (a : Act) (spelled : IsSpelled a) where
    pub refused : refusal_asked (bounds s) (call_asked ps a) ≡ or_else OutOfMemory (cause_here r (event_asked sent a))
    refused = ap (refusal_asked (bounds s)) (asked_alike ps sent a is spelled) ∙ refused_on (event_asked sent a)

    -- an act whose call was accepted is the act's event
    pub is_acted : (by : ℕ) (c : Call) (new : State) (said : CallOutput) → call_asked ps a ≡ Some c → cause (bounds s) c ≡ None → said ≡ answer_to s c
        → ((event : Event) → c ≡ call_of event → IsEventAt r by event (reply_of r event) new) → IsActed new (kept ps said) r sent by a
    is_acted by c new said call none answer events =
        let found = comes (event_asked sent a) c (sym (asked_alike ps sent a is spelled) ∙ call) in
        let e = events found.event found.is in
        record {
          accepted = ap (cause_here r) found.asks ∙ e.accepted;
          stands = subst (λ o. Represents new (after_maybe by o r)) (sym found.asks) e.stands;
          packets =
              ap (kept ps) answer ∙ ap (λ d. kept ps (answer_to s d)) found.is
              ∙ after_event found.event (subst (λ d. cause (bounds s) d ≡ None) found.is none)
              ∙ ap (λ o. map seen_packet (sent ++ cut_by r o)) (sym found.asks);
        }

pub by_cause : {T : Type 0} (result : Result T Refusal) (a b : Refusal) → a ≡ b → IfErr result (λ refusal. refusal ≡ a) → IfErr result (λ refusal. refusal ≡ b)
by_cause (Ok t) a b same h = tt
by_cause (Err e) a b same h = h ∙ same
