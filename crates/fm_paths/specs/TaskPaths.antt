-- Flows that are made of ways: a way is where a task's unit goes from the task to the sink, and an arc has as many units as
-- ways go over it. Textbook: the decomposition of a flow into paths.
use Rattle.std.specs.Prelude.{◌≡◌, ℕ, ◌≤◌, ◌==◌, ◌&&◌, Bool, false, List, [], ◌∷◌, Some, IsTrue, count_by, flat_map}
use Rattle.std.specs.List.{filter_map}
pub use Rattle.fm_tally.specs.declared.way.Way.{Way}
pub use Rattle.fm_tally.specs.declared.way.Way.TheVariants.{ToJob, ByRequest, Straight}
use Rattle.fm_records.specs.declared.records.MachineReg.{MachineReg}
use Rattle.fm_records.specs.Options.{when}
use Rattle.fm_records.specs.Table.{Table}
use Rattle.fm_records.specs.Facts.{is_live, open_state}
use Rattle.fm_records.specs.Sets.{IsMember}
use Rattle.fm_net.specs.declared.node.Node.{Node}
use Rattle.fm_net.specs.declared.node.Node.TheVariants.{Sink, Unscheduled, Request, Machine, Task}
use Rattle.fm_net.specs.Net.{Net, arc_at}
use Rattle.fm_net.specs.Network.{is_live_of, waits_for, room_arc, arc_of}
use Rattle.fm_net.specs.NetworkEquality.{same_ends}
use Rattle.fm_certificate.specs.Flows.{Units}

-- the ends of the arcs on the way, up to the sink
abbrev pub path_arcs_of : ℕ → Way → List (Node × Node)
path_arcs_of t (ToJob j) = (Task t, Unscheduled j) ∷ (Unscheduled j, Sink) ∷ []
path_arcs_of t (ByRequest r m) = (Task t, Request r) ∷ (Request r, Machine m) ∷ (Machine m, Sink) ∷ []
path_arcs_of t (Straight m) = (Task t, Machine m) ∷ (Machine m, Sink) ∷ []

abbrev pub path_arcs : ℕ × Way → List (Node × Node)
path_arcs w = path_arcs_of w.0 w.1

-- how often a list has these ends
abbrev pub crossings : List (Node × Node) → Node × Node → ℕ
crossings ss ends = count_by (λ s. same_ends s ends) ss

-- the units of an arc: how many ways go over it
abbrev pub units_of : List (ℕ × Way) → Units
units_of ways from to = crossings (flat_map path_arcs ways) (from, to)

-- the network has each arc of the ways
abbrev pub HasArcsOf : Net → List (ℕ × Way) → Type 0
HasArcsOf net ways = (s : Node × Node) → IsMember s (flat_map path_arcs ways) → (v : ℕ × ℕ) × (arc_at net s.0 s.1 ≡ Some v)

-- one way for each live task of a table
abbrev pub ways_of : Table → (ℕ → Way) → List (ℕ × Way)
ways_of k way = filter_map (λ e. when (is_live k e.0) (e.0, way e.0)) k.tasks

-- the network has the arcs of this way: to the task's own job; over its request, if it waits for that, to a machine with room
-- for it; straight to a machine to which the task has an arc
abbrev pub MayGo : Table → ℕ → Way → Type 0
MayGo k t (ToJob j) = IsTrue (is_live_of k j t)
MayGo k t (ByRequest r m) = IsTrue (waits_for k r t) × (v : ℕ × ℕ) × (room_arc k r m ≡ Some v)
MayGo k t (Straight m) = (v : ℕ × ℕ) × (arc_of k (Task t) (Machine m) ≡ Some v)

-- the way goes over this request to this machine
abbrev pub goes_by : ℕ → ℕ → ℕ × Way → Bool
goes_by r m (t, ToJob j) = false
goes_by r m (t, ByRequest q p) = (q == r) && (p == m)
goes_by r m (t, Straight p) = false

-- the way takes a slot of this machine
abbrev pub takes_slot : ℕ → ℕ × Way → Bool
takes_slot m (t, ToJob j) = false
takes_slot m (t, ByRequest q p) = p == m
takes_slot m (t, Straight p) = p == m

-- each live task has a way that the network has, no more ways go over a request to a machine than fit there, and no machine
-- has more ways than slots
pub record Fit (k : Table) (way : ℕ → Way) : Type 0 where
  pub may : (t : ℕ) → IsTrue (is_live k t) → MayGo k t (way t)
  pub room : (r m : ℕ) (v : ℕ × ℕ) → room_arc k r m ≡ Some v → count_by (goes_by r m) (ways_of k way) ≤ v.0
  pub slots : (m : ℕ) (state : MachineReg) → open_state k m ≡ Some state → count_by (takes_slot m) (ways_of k way) ≤ state.slots
