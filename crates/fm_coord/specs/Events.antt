-- A replica as the sets of operations that it received, and what happens to it. Delta-state CRDTs (Almeida, Shoker and
-- Baquero): basic anti-entropy in the transitive mode: what was received from others is passed on too.
use Rattle.std.specs.Prelude.{ℕ, ◌+◌, List, [], ◌∷◌, ◌++◌}
use Rattle.std.specs.List.{slice_range}
use Rattle.fm_records.specs.declared.ops.Op.{Op}
use Rattle.fm_records.specs.Sets.{union}
use Rattle.fm_records.specs.Know.{table_of}
use Rattle.fm_round.specs.declared.plan.Plan.{Plan}
use Rattle.fm_round.specs.declared.plan.Admitted.{Admitted}
use Rattle.fm_round.specs.Admission.{admission}
use Rattle.fm_coord.specs.declared.entry.Range.{Range}
use Rattle.fm_coord.specs.declared.entry.Range.TheVariants.{Interval, Full}

-- a packet: its sender, the sender's number for it, and the set of operations that it stands for
pub record Sent : Type 0 where
  pub sender : ℕ
  pub number : ℕ
  pub set : List Op

-- what may happen at a replica
pub data Event : Type 0 where
  -- an operation is told
  Tell : (op : Op) → Event
  -- a packet is merged
  Merge : (packet : Sent) → Event
  -- a packet is cut
  Cut : (range : Range) → Event
  -- the deltas below n are dropped
  Trim : (n : ℕ) → Event
  -- what is known is viewed
  View : Event
  -- a plan is admitted
  Commit : (plan : Plan) → Event

-- a replica
pub record Replica : Type 0 where
  pub number : ℕ
  -- how many entries its history may have
  pub limit : ℕ
  -- every operation that it received, and the sets by which it received them
  pub taken : List Op
  pub buffer : List (List Op)
  pub floor : ℕ
  -- how many packets it cut
  pub cuts : ℕ
  -- what happened, with who asked for it
  pub steps : List (ℕ × Event)

-- an unused replica
abbrev pub opening : ℕ → ℕ → Replica
opening number limit = record { number = number; limit = limit; taken = []; buffer = []; floor = 0; cuts = 0; steps = [] }

-- the operations of a range: the union of the sets of an interval, or all that were received
abbrev pub set_of : Replica → Range → List Op
set_of r (Interval from to) = union (slice_range r.buffer from to)
set_of r Full = r.taken

-- the packet of a cut: its number is one more than the cuts before
abbrev pub packet_of : Replica → Range → Sent
packet_of r range = record { sender = r.number; number = r.cuts + 1; set = set_of r range }

-- what is admitted of a plan
abbrev pub admitted_by : Replica → Plan → Admitted
admitted_by r plan = admission (table_of r.taken) r.number plan

-- a set is added to what was received, and to the end of the buffer
abbrev pub with_set : Replica → List Op → Replica
with_set r S = record { number = r.number; limit = r.limit; taken = r.taken ++ S; buffer = r.buffer ++ S ∷ []; floor = r.floor; cuts = r.cuts; steps = r.steps }

-- what an event does
abbrev pub after_event : Replica → Event → Replica
after_event r (Tell op) = with_set r (op ∷ [])
after_event r (Merge packet) = with_set r packet.set
after_event r (Commit plan) = with_set r (admitted_by r plan).ops
after_event r (Cut range) = record { number = r.number; limit = r.limit; taken = r.taken; buffer = r.buffer; floor = r.floor; cuts = r.cuts + 1; steps = r.steps }
after_event r (Trim n) = record { number = r.number; limit = r.limit; taken = r.taken; buffer = r.buffer; floor = n; cuts = r.cuts; steps = r.steps }
after_event r View = r

abbrev pub with_step : Replica → ℕ → Event → Replica
with_step r by event = record { number = r.number; limit = r.limit; taken = r.taken; buffer = r.buffer; floor = r.floor; cuts = r.cuts; steps = r.steps ++ (by, event) ∷ [] }

-- the replica after an event that someone asked for
abbrev pub happens : Replica → ℕ → Event → Replica
happens r by event = with_step (after_event r event) by event
