-- The calls of acts.
use Rattle.std.specs.Prelude.{◌≡◌, ◌<◌, ℕ, List, Option, Some, None, option_map, slice_get}
use Rattle.fm_records.specs.declared.refusal.Refusal.{Refusal}
use Rattle.fm_records.specs.declared.refusal.Refusal.TheVariants.{NoPacket}
use Rattle.fm_records.specs.Know.{table_of}
use Rattle.fm_records.specs.OpsOfTable.{ops}
use Rattle.fm_delta.specs.declared.packet.Packet.{Packet}
use Rattle.fm_coord.specs.declared.entry.Call.{Call}
use Rattle.fm_coord.specs.declared.entry.Call.TheVariants as call
use Rattle.fm_coord.specs.Causes.{Bounds, refusal_for}
use Rattle.fm_world.specs.declared.step.Act.{Act}
use Rattle.fm_world.specs.declared.step.Act.TheVariants as act

-- the call of an act: a delivery is the merge of the packet that was cut as the i-th, if there is one
abbrev pub call_asked : List Packet → Act → Option Call
call_asked packets (act.Tell op) = Some (call.Tell op)
call_asked packets (act.Cut range) = Some (call.Cut range)
call_asked packets (act.Deliver i) = option_map call.Merge (slice_get packets i)
call_asked packets (act.Trim n) = Some (call.Trim n)
call_asked packets act.View = Some call.View
call_asked packets (act.Commit plan) = Some (call.Commit plan)
call_asked packets (act.Take packet) = Some (call.Merge packet)

-- why an act is refused: there is no such packet, or as its call
abbrev pub refusal_asked : Bounds → Option Call → Refusal
refusal_asked b None = NoPacket
refusal_asked b (Some call) = refusal_for b call

-- a packet that is cut has a place
abbrev pub HasRoomFor : Call → ℕ → ℕ → Type 0
HasRoomFor (call.Cut range) len capacity = len < capacity
HasRoomFor _ len capacity = Unit {0}

-- a packet that another world cut is the table of the operations that it is written out as
abbrev pub IsSpelled : Act → Type 0
IsSpelled (act.Take packet) = table_of (ops packet.value) ≡ packet.value
IsSpelled _ = Unit {0}
