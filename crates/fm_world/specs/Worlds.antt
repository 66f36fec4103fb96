-- A world: replicas, every packet that was cut, and what steps do to them. Delta-state CRDTs (Almeida, Shoker and
-- Baquero): basic anti-entropy in the transitive mode, in which a packet may be delivered late, again, or never.
use Rattle.std.specs.Prelude.{◌≡◌, ◌==◌, ℕ, cond, take, Result, Ok, Err, List, [], ◌∷◌, ◌++◌, Option, Some, None, option_map, map, slice_get}
use Rattle.fm_records.specs.declared.refusal.Refusal.{Refusal}
use Rattle.fm_records.specs.declared.refusal.Refusal.TheVariants.{OutOfMemory, NoCoordinator, NoPacket}
use Rattle.fm_records.specs.Options.{or_else}
use Rattle.fm_records.specs.OpsOfTable.{ops}
use Rattle.fm_delta.specs.declared.packet.Packet.{Packet}
use Rattle.fm_coord.specs.Events.{Sent, Event, Replica, opening, packet_of, happens}
use Rattle.fm_coord.specs.Events as event
use Rattle.fm_coord.specs.Causes.{cause, bounds_of}
use Rattle.fm_coord.specs.Replays.{call_of}
use Rattle.fm_world.specs.declared.step.Act.{Act}
use Rattle.fm_world.specs.declared.step.Act.TheVariants as act
use Rattle.fm_world.specs.declared.step.Step.{Step}
use Rattle.fm_world.specs.declared.step.RunStop.{RunStop}

-- replicas, and the packets that were cut, in the order of their cuts
pub record WorldOfSets : Type 0 where
  pub replicas : List Replica
  pub packets : List Sent

-- a world of unused replicas with these numbers and limits
abbrev pub opening_world : List (ℕ × ℕ) → WorldOfSets
opening_world cs = record { replicas = map (λ c. opening c.0 c.1) cs; packets = [] }

-- the replica with the number
abbrev pub with_number : List Replica → ℕ → Option Replica
with_number [] n = None
with_number (r ∷ rs) n = cond (r.number == n) (Some r) (with_number rs n)

-- the replica with the number is changed, the others stay
abbrev pub changed_at : ℕ → (Replica → Replica) → List Replica → List Replica
changed_at n change [] = []
changed_at n change (r ∷ rs) = cond (r.number == n) (change r ∷ rs) (r ∷ changed_at n change rs)

-- a packet that another world cut, as the operations that its value is written out as
abbrev pub spelled_out : Packet → Sent
spelled_out p = record { sender = p.sender; number = p.number; set = ops p.value }

-- the event of an act: a delivery is the merge of the packet with number i, counted from 0 in the order of cuts
abbrev pub event_asked : List Sent → Act → Option Event
event_asked sent (act.Tell op) = Some (event.Tell op)
event_asked sent (act.Cut range) = Some (event.Cut range)
event_asked sent (act.Deliver i) = option_map event.Merge (slice_get sent i)
event_asked sent (act.Trim n) = Some (event.Trim n)
event_asked sent act.View = Some event.View
event_asked sent (act.Commit plan) = Some (event.Commit plan)
event_asked sent (act.Take packet) = Some (event.Merge (spelled_out packet))

-- the replica after the event, if there is one
abbrev pub after_maybe : ℕ → Option Event → Replica → Replica
after_maybe by None r = r
after_maybe by (Some event) r = happens r by event

-- the packet of a cut
abbrev pub cut_by : Replica → Option Event → List Sent
cut_by r (Some (event.Cut range)) = packet_of r range ∷ []
cut_by r _ = []

-- why a replica refuses an event: there is no such packet to deliver, or the cause of the call
abbrev pub cause_here : Replica → Option Event → Option Refusal
cause_here r None = Some NoPacket
cause_here r (Some event) = cause (bounds_of r) (call_of event)

-- no replica has the number; or why the one that has it refuses
abbrev pub cause_at : Option Replica → Option Event → Option Refusal
cause_at None event = Some NoCoordinator
cause_at (Some r) event = cause_here r event

-- the cause for which a step is refused, unless memory ran out
abbrev pub cause_of : WorldOfSets → Step → Option Refusal
cause_of w s = cause_at (with_number w.replicas s.at) (event_asked w.packets s.act)

-- the refusal of a step that is refused: its cause, and out of memory if it has none
abbrev pub refusal_of : WorldOfSets → Step → Refusal
refusal_of w s = or_else OutOfMemory (cause_of w s)

-- the packets after an event at a replica
abbrev pub sent_at : List Sent → Option Replica → Option Event → List Sent
sent_at sent None event = sent
sent_at sent (Some r) event = sent ++ cut_by r event

-- the world after an accepted step
abbrev pub step_of : WorldOfSets → Step → WorldOfSets
step_of w s =
    record {
      replicas = changed_at s.at (after_maybe s.by (event_asked w.packets s.act)) w.replicas;
      packets = sent_at w.packets (with_number w.replicas s.at) (event_asked w.packets s.act);
    }

-- the world after a replica merged a packet that another world cut
abbrev pub taken_in : WorldOfSets → ℕ → ℕ → Sent → WorldOfSets
taken_in w at by packet = record { replicas = changed_at at (λ r. happens r by (event.Merge packet)) w.replicas; packets = w.packets }

-- the world after accepted steps
abbrev pub run_of : WorldOfSets → List Step → WorldOfSets
run_of w [] = w
run_of w (s ∷ ss) = run_of (step_of w s) ss

-- none of the steps has a cause of refusal
abbrev pub AreAccepted : WorldOfSets → List Step → Type 0
AreAccepted w [] = Unit {0}
AreAccepted w (s ∷ ss) = (cause_of w s ≡ None) × AreAccepted (step_of w s) ss

-- the steps that a run accepted: all of them, or those before the one at which it stopped
abbrev pub taken_by : {T : Type 0} → Result T RunStop → List Step → List Step
taken_by (Ok t) ss = ss
taken_by (Err stop) ss = take stop.place ss

-- a run stopped at a step of the list, which is refused after those before it
pub record StopsAt (w : WorldOfSets) (ss : List Step) (stop : RunStop) : Type 0 where
  pub step : Step
  pub there : slice_get ss stop.place ≡ Some step
  pub refusal : stop.refusal ≡ refusal_of (run_of w (take stop.place ss)) step
