-- The network of a table: Firmament's network-aware policy with Quincy's unscheduled aggregators; capacities and costs
-- are this project's profile.
use Rattle.std.specs.Prelude.{◌≡◌, ℕ, ◌+◌, ◌-◌, ◌/◌, Bool, true, cond, not, ◌==◌, ◌&&◌, List, [], ◌∷◌, ◌++◌, Option, Some, None, option_map, min, count_by, filter, flat_map, map, nat_le}
use Rattle.std.specs.List.{list_any}
use Rattle.std.specs.Ordering.{nat_cmp}
use Rattle.fm_lattice.specs.Maps.{lookup, IsRising}
use Rattle.fm_records.specs.declared.records.SpecReg.{SpecReg}
use Rattle.fm_records.specs.declared.records.MachineReg.{MachineReg}
use Rattle.fm_records.specs.Options.{when, and_then, passes}
use Rattle.fm_records.specs.Sets.{rising, table}
use Rattle.fm_records.specs.Rising.{Rises}
use Rattle.fm_records.specs.Table.{Table, TaskValue}
use Rattle.fm_records.specs.Facts.{job_of, live_spec, is_live, open_state, is_open, holder_of, holds, load_of, spare_of}
use Rattle.fm_net.specs.declared.node.Node.{Node}
use Rattle.fm_net.specs.declared.node.Node.TheVariants.{Sink, Unscheduled, Request, Machine, Task}
use Rattle.fm_net.specs.Nodes.{node_cmp, ends_cmp}
use Rattle.fm_net.specs.Net.{Net, has_node, arc_at}

-- some machine holds the task
abbrev pub is_held : Table → ℕ → Bool
is_held k t = passes (λ m. true) (holder_of k t)

-- the task is live, and its job is j
abbrev pub is_live_of : Table → ℕ → ℕ → Bool
is_live_of k j t = passes (λ s. s.job == j) (live_spec k t)

-- the task is live and not held, and its request is r
abbrev pub waits_for : Table → ℕ → ℕ → Bool
waits_for k r t = passes (λ s. s.request == r) (live_spec k t) && not (is_held k t)

-- some task of the table passes the test
abbrev pub some_task : (ℕ → Bool) → Table → Bool
some_task test k = list_any (λ e. test e.0) k.tasks

-- how many live tasks the job has
abbrev pub live_tasks : Table → ℕ → ℕ
live_tasks k j = count_by (λ e. is_live_of k j e.0) k.tasks

-- The nodes.
abbrev pub is_node : Table → Node → Bool
-- the sink
is_node k Sink = true
-- a job with a live task
is_node k (Unscheduled j) = some_task (is_live_of k j) k
-- a request of a live task that is not held
is_node k (Request r) = some_task (waits_for k r) k
-- an open machine
is_node k (Machine m) = is_open k m
-- a live task
is_node k (Task t) = is_live k t

-- how many tasks of the request fit: as many as there are slots, and as fit into the spare
abbrev pub capacity_for : MachineReg → ℕ → ℕ → ℕ
capacity_for state spare r = cond (r == 0) state.slots (min state.slots (spare / r))

-- the capacity and cost of a request's arc into a machine: if there is a spare, and it is the request or more
abbrev pub place_arc : Table → ℕ → ℕ → MachineReg → ℕ → Option (ℕ × ℕ)
place_arc k r m state spare = when (nat_le r spare) (capacity_for state spare r, r + load_of k m)

abbrev pub room_arc : Table → ℕ → ℕ → Option (ℕ × ℕ)
room_arc k r m = and_then (λ state. and_then (place_arc k r m state) (spare_of k m)) (open_state k m)

-- the capacity and cost of a task's arc into a machine that it prefers: if there is room for its request, at the cost
-- that its request has there less the credit, and at none if the credit is greater
abbrev pub preferred_arc : Table → SpecReg → ℕ → Option (ℕ × ℕ)
preferred_arc k s m = and_then (λ credit. option_map (λ a. (1, a.1 - credit)) (room_arc k s.request m)) (lookup nat_cmp m s.prefer)

-- The capacity and cost of the arc from one node to another, if there is one.
abbrev pub arc_of : Table → Node → Node → Option (ℕ × ℕ)
-- a live task that is not held, to its request
arc_of k (Task t) (Request r) = when (waits_for k r t) (1, 0)
-- a request to a machine that has room for it
arc_of k (Request r) (Machine m) = cond (is_node k (Request r)) (room_arc k r m) None
-- a task that is held to the machine that holds it, and a live one that is not to each machine that it prefers and that
-- has room
arc_of k (Task t) (Machine m) = cond (is_held k t) (when (holds k m t) (1, 0)) (and_then (λ s. preferred_arc k s m) (live_spec k t))
-- a live task to its job, for the price of waiting, or of a preemption if it is held
arc_of k (Task t) (Unscheduled j) = cond (is_live_of k j t) (option_map (λ job. (1, cond (is_held k t) job.preempt job.wait)) (job_of k j)) None
-- a machine to the sink
arc_of k (Machine m) Sink = option_map (λ state. (state.slots, 0)) (open_state k m)
-- a job to the sink
arc_of k (Unscheduled j) Sink = when (is_node k (Unscheduled j)) (live_tasks k j, 0)
arc_of k _ _ = None

-- the network has exactly the nodes and arcs of the table, each once, in order
pub record IsNetworkOf (k : Table) (net : Net) : Type 0 where
  pub nodes_rise : Rises node_cmp net.nodes
  pub arcs_rise : IsRising ends_cmp net.arcs
  pub each_node : (n : Node) → has_node net n ≡ is_node k n
  pub each_arc : (from to : Node) → arc_at net from to ≡ arc_of k from to

-- That network, computed: of the names that the table mentions, the nodes, and of their pairs, the arcs.

abbrev pub names_of_task : ℕ × TaskValue → List Node
names_of_task (t, (None, p)) = Task t ∷ []
names_of_task (t, (Some s, p)) = Task t ∷ Unscheduled s.job ∷ Request s.request ∷ []

abbrev pub names : Table → List Node
names k = Sink ∷ flat_map names_of_task k.tasks ++ map (λ e. Machine e.0) k.machines

abbrev pub nodes_of : Table → List Node
nodes_of k = filter (is_node k) (rising node_cmp (names k))

abbrev pub pairs : {A : Type 0} → List A → List (A × A)
pairs xs = flat_map (λ x. map (λ y. (x, y)) xs) xs

abbrev pub net_of : Table → Net
net_of k = record { nodes = nodes_of k; arcs = table ends_cmp (pairs (nodes_of k)) (λ e. arc_of k e.0 e.1) }
