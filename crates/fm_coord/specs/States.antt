-- The state of a coordinator, how calls change it, and for which replica it stands.
use Rattle.std.specs.Prelude.{◌≡◌, ◌≤◌, ℕ, ◌+◌, List, [], ◌∷◌, ◌++◌, length, drop, map, None}
use Rattle.fm_records.specs.Table.{Table}
use Rattle.fm_records.specs.Know.{table_of}
use Rattle.fm_records.specs.Joined.{table_join}
use Rattle.fm_delta.specs.declared.packet.Packet.{Packet}
use Rattle.fm_delta.specs.Deltas.{Deltas, end_of, with_delta, with_floor, between, joined_all}
use Rattle.fm_round.specs.Admission.{admission}
use Rattle.fm_coord.specs.declared.entry.Call.{Call}
use Rattle.fm_coord.specs.declared.entry.Call.TheVariants as call
use Rattle.fm_coord.specs.declared.entry.Reply.{Reply}
use Rattle.fm_coord.specs.declared.entry.Entry.{Entry}
use Rattle.fm_coord.specs.declared.entry.Range.{Range}
use Rattle.fm_coord.specs.declared.entry.Range.TheVariants.{Interval, Full}
use Rattle.fm_coord.specs.Events.{Event, Replica, opening, happens}
use Rattle.fm_coord.specs.Causes.{Bounds, cause, bounds_of}
use Rattle.fm_coord.specs.Replays.{call_of, reply_of, replay, IsLegal}

-- what a coordinator keeps
pub record State : Type 0 where
  pub number : ℕ
  pub limit : ℕ
  pub knowledge : Table
  pub deltas : Deltas
  pub cuts : ℕ
  pub history : List Entry

-- with the keeper of its network
pub record WithKeeper (N : Type 0) : Type 0 where
  pub state : State
  pub keeper : N

-- an unused coordinator
abbrev pub new_state : ℕ → ℕ → State
new_state number limit = record { number = number; limit = limit; knowledge = table_of []; deltas = record { floor = 0; kept = [] }; cuts = 0; history = [] }

abbrev pub history_entry : ℕ → Call → Reply → Entry
history_entry by call reply = record { by = by; call = call; reply = reply }

-- what its refusals depend on
abbrev pub bounds : State → Bounds
bounds s = record { limit = s.limit; entries = length s.history; floor = s.deltas.floor; end = end_of s.deltas }

-- a delta is merged into what is known, and kept at the end
abbrev pub took : State → Table → Entry → State
took s delta e = record { number = s.number; limit = s.limit; knowledge = table_join s.knowledge delta; deltas = with_delta s.deltas delta; cuts = s.cuts; history = s.history ++ e ∷ [] }

-- a packet is cut
abbrev pub gave : State → Entry → State
gave s e = record { number = s.number; limit = s.limit; knowledge = s.knowledge; deltas = s.deltas; cuts = s.cuts + 1; history = s.history ++ e ∷ [] }

-- the deltas below n are dropped
abbrev pub after_trim : State → ℕ → Entry → State
after_trim s n e = record { number = s.number; limit = s.limit; knowledge = s.knowledge; deltas = with_floor s.deltas n; cuts = s.cuts; history = s.history ++ e ∷ [] }

-- the entry alone is added
abbrev pub with_entry : State → Entry → State
with_entry s e = record { number = s.number; limit = s.limit; knowledge = s.knowledge; deltas = s.deltas; cuts = s.cuts; history = s.history ++ e ∷ [] }

-- the knowledge of a range: the join of an interval's deltas, or all that is known
abbrev pub range_value : State → Range → Table
range_value s (Interval from to) = joined_all (between s.deltas from to)
range_value s Full = s.knowledge

-- the packet of a cut
abbrev pub cut_packet : State → Range → Packet
cut_packet s range = record { sender = s.number; number = s.cuts + 1; value = range_value s range }

-- what an accepted call leaves, with its entry
abbrev pub after : State → Entry → Call → State
after s e (call.Tell op) = took s (table_of (op ∷ [])) e
after s e (call.Merge packet) = took s packet.value e
after s e (call.Cut range) = gave s e
after s e (call.Trim n) = after_trim s n e
after s e call.View = with_entry s e
after s e (call.Commit plan) = took s (table_of (admission s.knowledge s.number plan).ops) e

-- who asked for what
abbrev pub caller_and_call : Entry → ℕ × Call
caller_and_call e = (e.by, e.call)

abbrev pub step_asked : ℕ × Event → ℕ × Call
step_asked s = (s.0, call_of s.1)

-- the coordinator stands for the replica
pub record Represents (s : State) (r : Replica) : Type 0 where
  pub number : s.number ≡ r.number
  pub limit : s.limit ≡ r.limit
  -- its knowledge is the table of all that was received
  pub knowledge : s.knowledge ≡ table_of r.taken
  -- its deltas are the tables of the sets from the floor on
  pub deltas : s.deltas.kept ≡ map table_of (drop r.floor r.buffer)
  pub floor : s.deltas.floor ≡ r.floor
  pub end : end_of s.deltas ≡ length r.buffer
  pub cuts : s.cuts ≡ r.cuts
  -- its history is what happened
  pub history : map caller_and_call s.history ≡ map step_asked r.steps

-- an accepted call was the event at the replica: there was no cause to refuse it, the reply is the event's, and what is
-- kept now stands for the replica after it
pub record IsEventAt (r : Replica) (by : ℕ) (event : Event) (reply : Reply) (s : State) : Type 0 where
  pub accepted : cause (bounds_of r) (call_of event) ≡ None
  pub answered : reply ≡ reply_of r event
  pub stands : Represents s (happens r by event)

-- the replica that a coordinator's history replays to
abbrev pub replay_of : State → Replica
replay_of s = replay (opening s.number s.limit) s.history

-- what holds of every coordinator
pub record IsCoordinator (s : State) : Type 0 where
  -- its history is legal, and it stands for the replica that the history replays to
  pub legal : IsLegal (opening s.number s.limit) s.history
  pub stands : Represents s (replay_of s)
  -- the history is within its limit, and counts no less than deltas and cuts
  pub within : length s.history ≤ s.limit
  pub end_within : end_of s.deltas ≤ length s.history
  pub cuts_within : s.cuts ≤ length s.history
