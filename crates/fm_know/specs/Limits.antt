-- The limits that known records keep (this project's profile).
use Rattle.std.specs.Prelude.{◌≤◌, IsTrue}
use Rattle.fm_records.specs.declared.records.JobReg.{JobReg}
use Rattle.fm_records.specs.declared.records.SpecReg.{SpecReg}
use Rattle.fm_records.specs.declared.records.MachineReg.{MachineReg}
use Rattle.fm_records.specs.declared.ops.TheConstants.{MOST_BANDWIDTH, MOST_PRICE, MOST_SLOTS}
use Rattle.fm_records.specs.Ops.{is_preference}

pub record JobWithin (r : JobReg) : Type 0 where
  pub wait : r.wait ≤ MOST_PRICE
  pub preempt : r.preempt ≤ MOST_PRICE

pub record SpecWithin (r : SpecReg) : Type 0 where
  pub request : r.request ≤ MOST_BANDWIDTH
  pub prefer : IsTrue (is_preference r.prefer)

pub record StateWithin (r : MachineReg) : Type 0 where
  pub slots_above : 1 ≤ r.slots
  pub slots_within : r.slots ≤ MOST_SLOTS
  pub nic : r.nic ≤ MOST_BANDWIDTH
