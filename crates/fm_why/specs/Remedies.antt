-- Changes of one machine after which some least schedule runs a task that waits; this project's profile.
use Rattle.std.specs.Prelude.{◌≡◌, ℕ, ◌+◌, List, [], ◌∷◌, Option, Some, None}
use Rattle.fm_records.specs.declared.ops.Op.{Op}
use Rattle.fm_records.specs.Ops.{op_fault}
use Rattle.fm_records.specs.Options.{and_then}
use Rattle.fm_records.specs.Table.{Table}
use Rattle.fm_records.specs.Know.{table_of}
use Rattle.fm_records.specs.Joined.{table_join}
use Rattle.fm_records.specs.Facts.{open_state, incarnation_of, spare_of}
use Rattle.fm_know.specs.Mutators.{next_machine_op}
use Rattle.fm_net.specs.Network.{net_of}
use Rattle.fm_certificate.specs.Flows.{Units, cost_of, IsLeast}
use Rattle.fm_why.specs.Running.{RunsOn}
use Rattle.fm_why.specs.declared.reasons.Change.{Change}
use Rattle.fm_why.specs.declared.reasons.Change.TheVariants.{Slot, Bandwidth}
use Rattle.fm_why.specs.declared.reasons.Remedy.{Remedy}

-- how many more slots, and how much more bandwidth
abbrev pub more_slots : Change → ℕ
more_slots Slot = 1
more_slots (Bandwidth by) = 0

abbrev pub more_bandwidth : Change → ℕ
more_bandwidth Slot = 0
more_bandwidth (Bandwidth by) = by

-- what tells of the change: the open machine's present state with so much more, at its next version
abbrev pub change_op : Table → ℕ → Change → Option Op
change_op k m change =
    and_then (λ state. and_then (λ i. next_machine_op k m i state.writer state.up (state.slots + more_slots change) (state.nic + more_bandwidth change)) (incarnation_of k m)) (open_state k m)

-- what is known once the operation is told too
abbrev pub with_op : Table → Op → Table
with_op k o = table_join k (table_of (o ∷ []))

-- changes of which none is of the same kind as another: none, a slot, bandwidth, or a slot and then bandwidth
abbrev pub AreOneOfEach : List Change → Type 0
AreOneOfEach [] = Unit {0}
AreOneOfEach (Slot ∷ []) = Unit {0}
AreOneOfEach (Bandwidth by ∷ []) = Unit {0}
AreOneOfEach (Slot ∷ Bandwidth by ∷ []) = Unit {0}
AreOneOfEach _ = ⊥

-- a schedule that runs the task on the machine and costs so much, and none costs less
pub record RunsAt (k : Table) (t m cost : ℕ) : Type 0 where
  pub units : Units
  pub least : IsLeast (net_of k) units
  pub runs : RunsOn (net_of k) units t m
  pub cost_is : cost ≡ cost_of (net_of k) units

-- with more bandwidth the machine has just the request to spare, and with less of it no room
abbrev pub IsTight : Table → ℕ → ℕ → Change → Type 0
IsTight k m r Slot = Unit {0}
IsTight k m r (Bandwidth by) = spare_of k m ≡ Some r

-- the change can be told, within the ranges of an operation; and by what is known then, some least schedule runs the task on
-- the place at that cost
pub record IsRemedy (k : Table) (t r : ℕ) (remedy : Remedy) : Type 0 where
  pub op : Op
  pub told : change_op k remedy.machine remedy.change ≡ Some op
  pub within : op_fault op ≡ None
  pub runs : RunsAt (with_op k op) t remedy.place remedy.cost
  pub tight : IsTight (with_op k op) remedy.machine r remedy.change
