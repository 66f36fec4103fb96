-- The plan of a flow: after Quincy, a unit from a task through a machine means "run there", and one from a
-- running task to its unscheduled aggregator means "preempt".
use Rattle.std.specs.Prelude.{ℕ, nat_lt, cond, not, ◌&&◌, ◌==◌, List, [], Option, None, option_map, flat_map, map, replicate, zip}
use Rattle.std.specs.List.{filter_map}
use Rattle.std.specs.Ordering.{nat_cmp}
use Rattle.fm_lattice.specs.Maps.{lookup}
use Rattle.fm_records.specs.Options.{when, and_then, or_else}
use Rattle.fm_records.specs.Table.{Table}
use Rattle.fm_records.specs.Facts.{attempt_of, incarnation_of}
use Rattle.fm_net.specs.declared.node.Node.{Node}
use Rattle.fm_net.specs.declared.node.Node.TheVariants.{Unscheduled, Request, Machine, Task}
use Rattle.fm_net.specs.Net.{Net}
use Rattle.fm_net.specs.Nodes.{ends_cmp}
use Rattle.fm_net.specs.Network.{is_held}
use Rattle.fm_round.specs.declared.plan.Place.{Place}
use Rattle.fm_round.specs.declared.plan.Preempt.{Preempt}
use Rattle.fm_round.specs.declared.plan.Plan.{Plan}
use Rattle.fm_round.specs.declared.from_units.RequestUnit.{RequestUnit}

-- a flow: the units of each arc, in the order of the arcs' ends, which is by node and so by id
abbrev pub ArcUnits : Type 0
ArcUnits = List ((Node × Node) × ℕ)

-- the units that a flow gives the arcs of a network
abbrev pub units_over : Net → (Node → Node → ℕ) → ArcUnits
units_over net sent = map (λ a. (a.0, sent a.0.0 a.0.1)) net.arcs

-- the units from one node to another, 0 if there is no arc
abbrev pub units : ArcUnits → Node → Node → ℕ
units f from to = or_else 0 (lookup ends_cmp (from, to) f)

-- a task with a unit to a request
pub record Wait : Type 0 where
  pub request : ℕ
  pub task : ℕ

abbrev pub wait_in : (Node × Node) × ℕ → Option Wait
wait_in ((Task t, Request r), u) = when (nat_lt 0 u) (record { request = r; task = t })
wait_in _ = None

-- a machine with units from a request, once for each unit
abbrev pub seats_in : (Node × Node) × ℕ → List RequestUnit
seats_in ((Request r, Machine m), u) = replicate u (record { request = r; machine = m })
seats_in _ = []

-- a task with a unit to a job
abbrev pub unscheduled_in : (Node × Node) × ℕ → Option ℕ
unscheduled_in ((Task t, Unscheduled j), u) = when (nat_lt 0 u) t
unscheduled_in _ = None

abbrev pub waits : ArcUnits → List Wait
waits f = filter_map wait_in f

abbrev pub seats : ArcUnits → List RequestUnit
seats f = flat_map seats_in f

-- by id, the tasks with a unit to the request
abbrev pub tasks_of : ℕ → List Wait → List ℕ
tasks_of r ws = filter_map (λ w. when (w.request == r) w.task) ws

-- by id, the machines, each as often as there are units to it from the request
abbrev pub machines_of : ℕ → List RequestUnit → List ℕ
machines_of r ss = filter_map (λ s. when (s.request == r) s.machine) ss

-- the i-th of these tasks goes to the i-th of these machines
abbrev pub machine_for : List Wait → List RequestUnit → Wait → Option ℕ
machine_for ws ss w = lookup nat_cmp w.task (zip (tasks_of w.request ws) (machines_of w.request ss))

-- and there it goes at the machine's present incarnation
abbrev pub place_at : Table → ℕ → ℕ → Option Place
place_at k t m = option_map (λ i. record { task = t; machine = m; incarnation = i }) (incarnation_of k m)

abbrev pub place_of : List Wait → List RequestUnit → Table → Wait → Option Place
place_of ws ss k w = and_then (place_at k w.task) (machine_for ws ss w)

-- a task with a unit to its request goes where its turn brings it; one with a unit straight to a machine, which does
-- not hold it yet, goes there, and takes no seat of its request
abbrev pub place_in_plan : List Wait → List RequestUnit → Table → (Node × Node) × ℕ → Option Place
place_in_plan ws ss k ((Task t, Request r), u) = and_then (place_of ws ss k) (wait_in ((Task t, Request r), u))
place_in_plan ws ss k ((Task t, Machine m), u) = cond (nat_lt 0 u && not (is_held k t)) (place_at k t m) None
place_in_plan ws ss k _ = None

-- a held task with a unit to its job is preempted at its present attempt
abbrev pub preempt_of : Table → ℕ → Option Preempt
preempt_of k t = when (is_held k t) (record { task = t; attempt = attempt_of k t })

-- both in the order of the tasks' ids
abbrev pub plan_of_flow : ArcUnits → Table → Plan
plan_of_flow f k = record {
  places = filter_map (place_in_plan (waits f) (seats f) k) f;
  preempts = filter_map (preempt_of k) (filter_map unscheduled_in f);
}
