-- What is known of a node, as far as the policy asks, and what follows from that alone: whether the network has the node, and the
-- arc from one node to another.
use Rattle.std.specs.Prelude.{ℕ, ◌-◌, Bool, true, cond, not, ◌==◌, ◌&&◌, Option, None, option_map, nat_lt}
use Rattle.std.specs.Ordering.{nat_cmp}
use Rattle.fm_lattice.specs.Maps.{lookup}
use Rattle.fm_records.specs.Options.{when, and_then, passes}
use Rattle.fm_records.specs.Table.{Table}
use Rattle.fm_records.specs.Facts.{job_of, live_spec, open_state, holder_of, load_of}
use Rattle.fm_net.specs.declared.node.Node.{Node}
use Rattle.fm_net.specs.declared.node.Node.TheVariants.{Sink, Unscheduled, Request, Machine, Task}
use Rattle.fm_net.specs.Network.{is_node, live_tasks}
use Rattle.fm_policy.specs.declared.node_facts.JobFacts.{JobFacts}
use Rattle.fm_policy.specs.declared.node_facts.RequestFacts.{RequestFacts}
use Rattle.fm_policy.specs.declared.node_facts.MachineFacts.{MachineFacts}
use Rattle.fm_policy.specs.declared.node_facts.TaskFacts.{TaskFacts}
use Rattle.fm_policy.specs.declared.node_facts.NodeFacts.{NodeFacts}
use Rattle.fm_policy.specs.declared.node_facts.NodeFacts.TheVariants.{OfSink, OfJob, OfRequest, OfMachine, OfTask}
use Rattle.fm_policy.specs.Rooms.{room_of, fit_in}
use Rattle.fm_policy.specs.Rules.{job_price}

-- what a table tells of a job, a machine and a task, and of a node
abbrev pub job_facts : Table → ℕ → JobFacts
job_facts k j = record { job = j; register = job_of k j; live = live_tasks k j }

abbrev pub task_facts : Table → ℕ → TaskFacts
task_facts k t = record { task = t; spec = live_spec k t; holder = holder_of k t }

abbrev pub machine_facts : Table → ℕ → MachineFacts
machine_facts k m = record { machine = m; state = open_state k m; load = load_of k m }

abbrev pub facts_of : Table → Node → NodeFacts
facts_of k Sink = OfSink
facts_of k (Unscheduled j) = OfJob (job_facts k j)
facts_of k (Request r) = OfRequest (record { request = r; waits = is_node k (Request r) })
facts_of k (Machine m) = OfMachine (machine_facts k m)
facts_of k (Task t) = OfTask (task_facts k t)

-- the node of which they are
abbrev pub node_of : NodeFacts → Node
node_of OfSink = Sink
node_of (OfJob j) = Unscheduled j.job
node_of (OfRequest r) = Request r.request
node_of (OfMachine m) = Machine m.machine
node_of (OfTask t) = Task t.task

-- the sink, a job with a live task, a request for which a task waits, an open machine, a live task
abbrev pub is_there : NodeFacts → Bool
is_there OfSink = true
is_there (OfJob j) = nat_lt 0 j.live
is_there (OfRequest r) = r.waits
is_there (OfMachine m) = passes (λ s. true) m.state
is_there (OfTask t) = passes (λ s. true) t.spec

-- how many tasks of a request fit on a machine and what each costs there, if the machine is open and has room
abbrev pub fit_on : MachineFacts → ℕ → Option (ℕ × ℕ)
fit_on m r = and_then (λ room. fit_in room r) (and_then (λ state. room_of state m.load) m.state)

-- a live task that no machine holds, to its request
abbrev pub waiting_arc : TaskFacts → RequestFacts → Option (ℕ × ℕ)
waiting_arc t r = when (passes (λ s. s.request == r.request) t.spec && not (passes (λ h. true) t.holder)) (1, 0)

-- a request for which a task waits, to a machine that has room for it
abbrev pub request_machine_arc : RequestFacts → MachineFacts → Option (ℕ × ℕ)
request_machine_arc r m = cond r.waits (fit_on m r.request) None

-- a live task, to a machine that it prefers and that has room: at the cost that its request has there less the credit, and at none
-- if the credit is greater
abbrev pub preference_arc : TaskFacts → MachineFacts → Option (ℕ × ℕ)
preference_arc t m = and_then (λ s. and_then (λ credit. option_map (λ a. (1, a.1 - credit)) (fit_on m s.request)) (lookup nat_cmp m.machine s.prefer)) t.spec

-- a task that a machine holds, to that machine, and one that none holds, to a machine that it prefers
abbrev pub machine_arc : TaskFacts → MachineFacts → Option (ℕ × ℕ)
machine_arc t m = cond (passes (λ h. true) t.holder) (when (passes (λ h. h == m.machine) t.holder) (1, 0)) (preference_arc t m)

-- a live task to its job, for the price of waiting, or of a preemption if a machine holds it
abbrev pub job_arc : TaskFacts → JobFacts → Option (ℕ × ℕ)
job_arc t j = cond (passes (λ s. s.job == j.job) t.spec) (option_map (λ r. (1, job_price r t.holder)) j.register) None

-- an open machine to the sink
abbrev pub slots_arc : MachineFacts → Option (ℕ × ℕ)
slots_arc m = option_map (λ state. (state.slots, 0)) m.state

-- a job with live tasks to the sink
abbrev pub live_arc : JobFacts → Option (ℕ × ℕ)
live_arc j = when (nat_lt 0 j.live) (j.live, 0)

-- the capacity and cost of the arc from one node to the other, if there is one
abbrev pub arc_between : NodeFacts → NodeFacts → Option (ℕ × ℕ)
arc_between (OfTask t) (OfRequest r) = waiting_arc t r
arc_between (OfRequest r) (OfMachine m) = request_machine_arc r m
arc_between (OfTask t) (OfMachine m) = machine_arc t m
arc_between (OfTask t) (OfJob j) = job_arc t j
arc_between (OfMachine m) OfSink = slots_arc m
arc_between (OfJob j) OfSink = live_arc j
arc_between _ _ = None
