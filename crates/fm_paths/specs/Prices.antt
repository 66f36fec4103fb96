-- Prices that show ways to be the cheapest: complementary slackness, in naturals in place of potentials. The price of a machine
-- is its load and what a further unit costs from there on; the offer of a request is what its units pay for a machine.
use Rattle.std.specs.Prelude.{◌≡◌, ℕ, ◌+◌, ◌-◌, ◌<◌, ◌≤◌, Some, option_map, min, IsTrue, count_by}
use Rattle.fm_records.specs.declared.records.JobReg.{JobReg}
use Rattle.fm_records.specs.declared.records.SpecReg.{SpecReg}
use Rattle.fm_records.specs.declared.records.MachineReg.{MachineReg}
use Rattle.fm_records.specs.Options.{or_else}
use Rattle.fm_records.specs.Table.{Table}
use Rattle.fm_records.specs.Facts.{job_of, live_spec, open_state, holder_of, load_of}
use Rattle.fm_net.specs.declared.node.Node.{Node}
use Rattle.fm_net.specs.declared.node.Node.TheVariants.{Sink, Unscheduled, Request, Machine, Task}
use Rattle.fm_net.specs.Network.{is_node, is_live_of, waits_for, room_arc, preferred_arc, arc_of}
use Rattle.fm_paths.specs.TaskPaths.{Way, ToJob, ByRequest, Straight, ways_of, goes_by, takes_slot}

-- the first node on a way
abbrev pub first_node : Way → Node
first_node (ToJob j) = Unscheduled j
first_node (ByRequest r m) = Request r
first_node (Straight m) = Machine m

-- what a unit costs from a node to the sink, by these prices and offers; a task's depends on its way (`cost_from`)
abbrev pub cost_beyond : Table → (ℕ → ℕ) → (ℕ → ℕ) → Node → ℕ
cost_beyond k price offer Sink = 0
cost_beyond k price offer (Unscheduled j) = 0
cost_beyond k price offer (Machine m) = price m - load_of k m
cost_beyond k price offer (Request r) = offer r + r
cost_beyond k price offer (Task t) = 0

-- the cost of an arc, 0 where there is none
abbrev pub arc_cost : Table → Node → Node → ℕ
arc_cost k from to = or_else 0 (option_map (λ v. v.1) (arc_of k from to))

-- the same, where a task's unit goes the task's way
abbrev pub cost_from : Table → (ℕ → ℕ) → (ℕ → ℕ) → (ℕ → Way) → Node → ℕ
cost_from k price offer way (Task t) = arc_cost k (Task t) (first_node (way t)) + cost_beyond k price offer (first_node (way t))
cost_from k price offer way n = cost_beyond k price offer n

-- no task has a cheaper way, at prices and offers that agree with free slots and with room
pub record AreCheapest (k : Table) (way : ℕ → Way) (price offer : ℕ → ℕ) : Type 0 where
  -- the price of a machine is no less than its load
  pub load : (m : ℕ) (state : MachineReg) → open_state k m ≡ Some state → load_of k m ≤ price m
  -- and no more where a slot is free
  pub free : (m : ℕ) (state : MachineReg) → open_state k m ≡ Some state → count_by (takes_slot m) (ways_of k way) < state.slots → price m ≤ load_of k m
  -- where more of a request fits, its offer is no more than the price
  pub more : (r m : ℕ) (v : ℕ × ℕ) → IsTrue (is_node k (Request r)) → room_arc k r m ≡ Some v → count_by (goes_by r m) (ways_of k way) < v.0 → offer r ≤ price m
  -- where it has units, the price is no more than its offer
  pub less : (r m : ℕ) (v : ℕ × ℕ) → IsTrue (is_node k (Request r)) → room_arc k r m ≡ Some v → 0 < count_by (goes_by r m) (ways_of k way) → price m ≤ offer r
  -- no arc of a task leads to a cheaper way
  pub none_cheaper : (t : ℕ) (to : Node) (v : ℕ × ℕ) → arc_of k (Task t) to ≡ Some v → cost_from k price offer way (Task t) ≤ v.1 + cost_beyond k price offer to

-- The same with no arc but those to machines that a task prefers, and those of requests to machines with room.
pub record AreFair (k : Table) (way : ℕ → Way) (price offer : ℕ → ℕ) : Type 0 where
  -- the price of a machine is no less than its load
  pub load : (m : ℕ) (state : MachineReg) → open_state k m ≡ Some state → load_of k m ≤ price m
  -- and no more where a slot is free
  pub free : (m : ℕ) (state : MachineReg) → open_state k m ≡ Some state → count_by (takes_slot m) (ways_of k way) < state.slots → price m ≤ load_of k m
  -- where more of a request fits, its offer is no more than the price
  pub more : (r m : ℕ) (v : ℕ × ℕ) → IsTrue (is_node k (Request r)) → room_arc k r m ≡ Some v → count_by (goes_by r m) (ways_of k way) < v.0 → offer r ≤ price m
  -- where it has units, the price is no more than its offer
  pub less : (r m : ℕ) (v : ℕ × ℕ) → IsTrue (is_node k (Request r)) → room_arc k r m ≡ Some v → 0 < count_by (goes_by r m) (ways_of k way) → price m ≤ offer r
  -- a held task that goes costs no more to preempt than the price is above the load
  pub gone : (t m j : ℕ) (job : JobReg) → holder_of k t ≡ Some m → way t ≡ ToJob j → job_of k j ≡ Some job → job.preempt ≤ price m - load_of k m
  -- and one that stays no less
  pub stays : (t m j p : ℕ) (job : JobReg) → holder_of k t ≡ Some m → way t ≡ Straight p → IsTrue (is_live_of k j t) → job_of k j ≡ Some job → price m - load_of k m ≤ job.preempt
  -- a waiting task that is left costs no more than its request's offer and the request
  pub left : (t r j : ℕ) (job : JobReg) → IsTrue (waits_for k r t) → way t ≡ ToJob j → job_of k j ≡ Some job → job.wait ≤ offer r + r
  -- and one that goes over its request no less
  pub asks : (t r j m : ℕ) (job : JobReg) → IsTrue (waits_for k r t) → way t ≡ ByRequest r m → IsTrue (is_live_of k j t) → job_of k j ≡ Some job → offer r + r ≤ job.wait
  -- one that goes straight to a machine would go no cheaper over its job or its request
  pub goes : (t r j m : ℕ) (job : JobReg) → IsTrue (waits_for k r t) → way t ≡ Straight m → IsTrue (is_live_of k j t) → job_of k j ≡ Some job → cost_from k price offer way (Task t) ≤ min job.wait (offer r + r)
  -- and none that waits would go cheaper to a machine that it prefers
  pub prefers : (t m : ℕ) (s : SpecReg) (v : ℕ × ℕ) → IsTrue (waits_for k s.request t) → live_spec k t ≡ Some s → preferred_arc k s m ≡ Some v → cost_from k price offer way (Task t) ≤ v.1 + (price m - load_of k m)
