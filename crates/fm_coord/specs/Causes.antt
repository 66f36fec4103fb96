-- Why calls are refused (this project's profile).
use Rattle.std.specs.Prelude.{ℕ, cond, nat_le, nat_lt, ◌||◌, length, Option, Some, None, option_map}
use Rattle.fm_records.specs.declared.refusal.Refusal.{Refusal}
use Rattle.fm_records.specs.declared.refusal.Refusal.TheVariants.{OutOfMemory, BadOp, HistoryFull, BadInterval, Trimmed}
use Rattle.fm_records.specs.Ops.{op_fault}
use Rattle.fm_records.specs.Options.{when, or_else}
use Rattle.fm_coord.specs.declared.entry.Range.{Range}
use Rattle.fm_coord.specs.declared.entry.Range.TheVariants.{Interval, Full}
use Rattle.fm_coord.specs.declared.entry.Call.{Call}
use Rattle.fm_coord.specs.declared.entry.Call.TheVariants as call
use Rattle.fm_coord.specs.Events.{Replica}

-- what refusals depend on: how many entries the history may have and has, the floor, and how many deltas there were
pub record Bounds : Type 0 where
  pub limit : ℕ
  pub entries : ℕ
  pub floor : ℕ
  pub end : ℕ

-- a cut that ends before it starts or beyond the end; else one that starts below the floor
abbrev pub range_fault : Bounds → Range → Option Refusal
range_fault b (Interval from to) = cond (nat_lt to from || nat_lt b.end to) (Some BadInterval) (when (nat_lt from b.floor) (Trimmed b.floor))
range_fault b Full = None

-- a floor that would fall or pass the end
abbrev pub floor_fault : Bounds → ℕ → Option Refusal
floor_fault b n = when (nat_lt n b.floor || nat_lt b.end n) BadInterval

-- what is wrong with a call: the first field of an operation that is out of its range, the range of a cut, or the floor
abbrev pub call_fault : Bounds → Call → Option Refusal
call_fault b (call.Tell op) = option_map BadOp (op_fault op)
call_fault b (call.Merge packet) = None
call_fault b (call.Cut range) = range_fault b range
call_fault b (call.Trim n) = floor_fault b n
call_fault b call.View = None
call_fault b (call.Commit plan) = None

-- the history has as many entries as it may have
abbrev pub room_fault : Bounds → Option Refusal
room_fault b = when (nat_le b.limit b.entries) HistoryFull

-- the one if there is one, else the other
abbrev pub first_some : {A : Type 0} → Option A → Option A → Option A
first_some None b = b
first_some (Some a) b = Some a

-- the cause for which a call is refused, unless memory ran out: what is wrong with it, else a full history
abbrev pub cause : Bounds → Call → Option Refusal
cause b c = first_some (call_fault b c) (room_fault b)

-- the refusal of a call that is refused: its cause, and out of memory if it has none
abbrev pub refusal_for : Bounds → Call → Refusal
refusal_for b c = or_else OutOfMemory (cause b c)

abbrev pub bounds_of : Replica → Bounds
bounds_of r = record { limit = r.limit; entries = length r.steps; floor = r.floor; end = length r.buffer }
