-- Histories, and the replicas that they replay to.
use Rattle.std.specs.Prelude.{◌≡◌, List, [], ◌∷◌, length, None}
use Rattle.fm_records.specs.Know.{table_of}
use Rattle.fm_records.specs.OpsOfTable.{ops}
use Rattle.fm_delta.specs.declared.packet.Packet.{Packet}
use Rattle.fm_coord.specs.declared.entry.Call.{Call}
use Rattle.fm_coord.specs.declared.entry.Call.TheVariants as call
use Rattle.fm_coord.specs.declared.entry.Reply.{Reply}
use Rattle.fm_coord.specs.declared.entry.Reply.TheVariants as reply
use Rattle.fm_coord.specs.declared.entry.Entry.{Entry}
use Rattle.fm_coord.specs.Events.{Sent, Event, Replica, packet_of, admitted_by, happens}
use Rattle.fm_coord.specs.Events as event
use Rattle.fm_coord.specs.Causes.{cause, bounds_of}

-- a packet as coordinators see it
abbrev pub seen_packet : Sent → Packet
seen_packet p = record { sender = p.sender; number = p.number; value = table_of p.set }

-- the call of an event
abbrev pub call_of : Event → Call
call_of (event.Tell op) = call.Tell op
call_of (event.Merge packet) = call.Merge (seen_packet packet)
call_of (event.Cut range) = call.Cut range
call_of (event.Trim n) = call.Trim n
call_of event.View = call.View
call_of (event.Commit plan) = call.Commit plan

-- the reply to an event: to a cut its packet, to a plan what is admitted of it, and to a view the number of events
-- before and what is known
abbrev pub reply_of : Replica → Event → Reply
reply_of r (event.Tell op) = reply.Nothing
reply_of r (event.Merge packet) = reply.Nothing
reply_of r (event.Cut range) = reply.Packet (seen_packet (packet_of r range))
reply_of r (event.Trim n) = reply.Nothing
reply_of r event.View = reply.Seen (length r.steps) (table_of r.taken)
reply_of r (event.Commit plan) = reply.Admitted (admitted_by r plan)

-- a call as an event: a packet that is merged stands for the operations that its value is written out as
abbrev pub event_of : Call → Event
event_of (call.Tell op) = event.Tell op
event_of (call.Merge p) = event.Merge (record { sender = p.sender; number = p.number; set = ops p.value })
event_of (call.Cut range) = event.Cut range
event_of (call.Trim n) = event.Trim n
event_of call.View = event.View
event_of (call.Commit plan) = event.Commit plan

-- the replica after an entry, and after the entries of a history
abbrev pub after_entry : Replica → Entry → Replica
after_entry r e = happens r e.by (event_of e.call)

abbrev pub replay : Replica → List Entry → Replica
replay r [] = r
replay r (e ∷ es) = replay (after_entry r e) es

-- the entry's call has no cause of refusal, and its reply is the event's
pub record IsReplayed (r : Replica) (e : Entry) : Type 0 where
  pub accepted : cause (bounds_of r) e.call ≡ None
  pub reply : e.reply ≡ reply_of r (event_of e.call)

-- a history is legal if each entry fits the replica that those before it replay to
abbrev pub IsLegal : Replica → List Entry → Type 0
IsLegal r [] = Unit {0}
IsLegal r (e ∷ es) = IsReplayed r e × IsLegal (after_entry r e) es
