-- What open machines have left.
use Rattle.std.specs.Prelude.{ℕ, ◌+◌, ◌-◌, ◌≤◌, ◌/◌, cond, ◌==◌, Option, min, nat_le}
use Rattle.fm_records.specs.declared.ops.TheConstants.{MOST_BANDWIDTH}
use Rattle.fm_records.specs.declared.records.MachineReg.{MachineReg}
use Rattle.fm_records.specs.Options.{when}
use Rattle.fm_policy.specs.declared.room.Room.{Room}

-- the room on an open machine with this state and this load, if the load is within its bandwidth
abbrev pub room_of : MachineReg → ℕ → Option Room
room_of state load = when (nat_le load state.nic) (record { slots = state.slots; load = load; bandwidth = state.nic })

-- what the load leaves of the bandwidth
abbrev pub spare_in : Room → ℕ
spare_in room = room.bandwidth - room.load

-- how many tasks of the request fit: as many as there are slots, and as fit into the spare
abbrev pub fitting_tasks : ℕ → ℕ → ℕ → ℕ
fitting_tasks slots spare r = cond (r == 0) slots (min slots (spare / r))

-- how many fit and what each costs, if one fits
abbrev pub fit_in : Room → ℕ → Option (ℕ × ℕ)
fit_in room r = when (nat_le r (spare_in room)) (fitting_tasks room.slots (spare_in room) r, r + room.load)

-- what a room can have
pub record RoomWithin (room : Room) : Type 0 where
  pub slots_above : 1 ≤ room.slots
  pub load : room.load ≤ room.bandwidth
  pub bandwidth : room.bandwidth ≤ MOST_BANDWIDTH
