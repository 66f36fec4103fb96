-- The network of a set of operations, by the facts of the set: the rules of `Network.antt` without a table. A law
-- says that it is the network of the set's table.
use Rattle.std.specs.Prelude.{◌≡◌, ℕ, ◌+◌, ◌-◌, Bool, true, cond, not, ◌==◌, ◌&&◌, List, Option, None, option_map, is_some, count_by, nat_le}
use Rattle.std.specs.List.{list_any}
use Rattle.std.specs.Ordering.{nat_cmp}
use Rattle.fm_lattice.specs.Maps.{lookup, IsRising}
use Rattle.fm_records.specs.declared.ops.Op.{Op}
use Rattle.fm_records.specs.Options.{when, and_then, passes}
use Rattle.fm_records.specs.Rising.{Rises}
use Rattle.fm_records.specs.Know.{job}
use Rattle.fm_records.specs.SetFacts.{live, state_if_up, holder, is_held_by, tasks, load, spare}
use Rattle.fm_net.specs.declared.node.Node.{Node}
use Rattle.fm_net.specs.declared.node.Node.TheVariants.{Sink, Unscheduled, Request, Machine, Task}
use Rattle.fm_net.specs.Nodes.{node_cmp, ends_cmp}
use Rattle.fm_net.specs.Net.{Net, has_node, arc_at}
use Rattle.fm_net.specs.Network.{capacity_for}

-- some machine holds the task
abbrev pub has_holder : List Op → ℕ → Bool
has_holder S t = is_some (holder S t)

-- the task is live, and its job is j
abbrev pub live_of : List Op → ℕ → ℕ → Bool
live_of S j t = passes (λ s. s.job == j) (live S t)

-- the task is live and not held, and its request is r
abbrev pub waiting : List Op → ℕ → ℕ → Bool
waiting S r t = passes (λ s. s.request == r) (live S t) && not (has_holder S t)

-- The nodes.
abbrev pub is_node_in : List Op → Node → Bool
-- the sink
is_node_in S Sink = true
-- a job with a live task
is_node_in S (Unscheduled j) = list_any (live_of S j) (tasks S)
-- a request of a live task that is not held
is_node_in S (Request r) = list_any (waiting S r) (tasks S)
-- an open machine
is_node_in S (Machine m) = is_some (state_if_up S m)
-- a live task
is_node_in S (Task t) = is_some (live S t)

-- the capacity and cost of a request's arc into an open machine that has room for it
abbrev pub room_in : List Op → ℕ → ℕ → Option (ℕ × ℕ)
room_in S r m = and_then (λ state. and_then (λ free. when (nat_le r free) (capacity_for state free r, r + load S m)) (spare S m)) (state_if_up S m)

-- The capacity and cost of the arc from one node to another, if there is one.
abbrev pub arc_in : List Op → Node → Node → Option (ℕ × ℕ)
-- a live task that is not held, to its request
arc_in S (Task t) (Request r) = when (waiting S r t) (1, 0)
-- a request to a machine that has room for it
arc_in S (Request r) (Machine m) = cond (is_node_in S (Request r)) (room_in S r m) None
-- a task that is held to the machine that holds it, and a live one that is not to each machine that it prefers and that
-- has room
arc_in S (Task t) (Machine m) = cond (has_holder S t) (when (is_held_by S m t) (1, 0)) (and_then (λ s. and_then (λ credit. option_map (λ a. (1, a.1 - credit)) (room_in S s.request m)) (lookup nat_cmp m s.prefer)) (live S t))
-- a live task to its job, for the price of waiting, or of a preemption if it is held
arc_in S (Task t) (Unscheduled j) = cond (live_of S j t) (option_map (λ r. (1, cond (has_holder S t) r.preempt r.wait)) (job S j)) None
-- a machine to the sink
arc_in S (Machine m) Sink = option_map (λ state. (state.slots, 0)) (state_if_up S m)
-- a job to the sink
arc_in S (Unscheduled j) Sink = when (is_node_in S (Unscheduled j)) (count_by (live_of S j) (tasks S), 0)
arc_in S _ _ = None

-- the network has exactly the nodes and arcs of the set, each once, in order
pub record IsNetworkOfSet (S : List Op) (net : Net) : Type 0 where
  pub nodes_rise : Rises node_cmp net.nodes
  pub arcs_rise : IsRising ends_cmp net.arcs
  pub each_node : (n : Node) → has_node net n ≡ is_node_in S n
  pub each_arc : (from to : Node) → arc_at net from to ≡ arc_in S from to
