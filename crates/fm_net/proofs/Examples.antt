-- The networks of small tables, computed.
use Rattle.std.proofs.Common.{◌≡◌, ℕ, ◌+◌, true, false, List, [], ◌∷◌, ◌++◌, Some, None, refl}
use Rattle.fm_records.specs.declared.ops.Op.{Op}
use Rattle.fm_records.specs.declared.ops.Op.TheVariants as op
use Rattle.fm_records.specs.Know.{table_of}
use Rattle.fm_net.specs.declared.node.Node.TheVariants.{Sink, Unscheduled, Request, Machine, Task}
use Rattle.fm_net.specs.Net.{Net, sink_alone}
use Rattle.fm_net.specs.Network.{net_of}
use Rattle.fm_net.specs.SetNetwork.{is_node_in, arc_in}

-- ids near the greatest that there are
abbrev big : ℕ
big = 340282366920938463463374607431768210000

abbrev J : ℕ
J = big + 1

abbrev A : ℕ
A = big + 10

abbrev t1 : ℕ
t1 = big + 17

abbrev t2 : ℕ
t2 = big + 18

abbrev job_with : ℕ → ℕ → Op
job_with wait preempt = op.Job J 1 1 false wait preempt

abbrev machine_with : ℕ → Op
machine_with slots = op.Machine A 1 1 1 true slots 1000

abbrev task_of : ℕ → ℕ → Op
task_of t request = op.Spec t 1 1 false J request []

abbrev prefers : ℕ → Op
prefers credit = op.Spec t1 1 1 false J 100 ((A, credit) ∷ [])

nothing_told : net_of (table_of []) ≡ sink_alone
nothing_told = refl

-- A job, a machine and a task: the task waits.

abbrev one_task : List Op
one_task = job_with 500 800 ∷ machine_with 2 ∷ task_of t1 100 ∷ []

abbrev one_task_net : Net
one_task_net = record {
  nodes = Sink ∷ Unscheduled J ∷ Request 100 ∷ Machine A ∷ Task t1 ∷ [];
  arcs = ((Unscheduled J, Sink), (1, 0)) ∷ ((Request 100, Machine A), (2, 100)) ∷ ((Machine A, Sink), (2, 0))
      ∷ ((Task t1, Unscheduled J), (1, 500)) ∷ ((Task t1, Request 100), (1, 0)) ∷ [];
}

one_task_waits : net_of (table_of one_task) ≡ one_task_net
one_task_waits = refl

-- a task that prefers the machine has an arc to it, at the cost of a place there less the credit, and at no cost if the
-- credit is greater
preferred : net_of (table_of (job_with 500 800 ∷ machine_with 2 ∷ prefers 30 ∷ [])) ≡ record { nodes = one_task_net.nodes; arcs = one_task_net.arcs ++ ((Task t1, Machine A), (1, 70)) ∷ [] }
preferred = refl

preferred_for_nothing : net_of (table_of (job_with 500 800 ∷ machine_with 2 ∷ prefers 200 ∷ [])) ≡ record { nodes = one_task_net.nodes; arcs = one_task_net.arcs ++ ((Task t1, Machine A), (1, 0)) ∷ [] }
preferred_for_nothing = refl

-- if there is no room there is no such arc
preferred_without_room : arc_in (op.Report A 1 1 950 ∷ job_with 500 800 ∷ machine_with 2 ∷ prefers 30 ∷ []) (Task t1) (Machine A) ≡ None
preferred_without_room = refl

-- a task whose job is not told yet is no node, and told in another order the network is the same
job_not_told : net_of (table_of (machine_with 2 ∷ task_of t1 100 ∷ [])) ≡ record { nodes = Sink ∷ Machine A ∷ []; arcs = ((Machine A, Sink), (2, 0)) ∷ [] }
job_not_told = refl

job_told_last : net_of (table_of (machine_with 2 ∷ task_of t1 100 ∷ job_with 500 800 ∷ [])) ≡ one_task_net
job_told_last = refl

-- of two registers of the same version and writer the greater wait counts, told in either order
abbrev longer_wait_net : Net
longer_wait_net = record {
  nodes = one_task_net.nodes;
  arcs = ((Unscheduled J, Sink), (1, 0)) ∷ ((Request 100, Machine A), (2, 100)) ∷ ((Machine A, Sink), (2, 0))
      ∷ ((Task t1, Unscheduled J), (1, 600)) ∷ ((Task t1, Request 100), (1, 0)) ∷ [];
}

longer_wait_last : net_of (table_of (one_task ++ job_with 600 800 ∷ [])) ≡ longer_wait_net
longer_wait_last = refl

longer_wait_first : net_of (table_of (job_with 600 800 ∷ one_task)) ≡ longer_wait_net
longer_wait_first = refl

-- the report of the greater number counts: 50 are spare, and the request does not fit
no_room : net_of (table_of (one_task ++ op.Report A 1 3 950 ∷ op.Report A 1 2 0 ∷ [])) ≡ record {
  nodes = Sink ∷ Unscheduled J ∷ Request 100 ∷ Machine A ∷ Task t1 ∷ [];
  arcs = ((Unscheduled J, Sink), (1, 0)) ∷ ((Machine A, Sink), (2, 0)) ∷ ((Task t1, Unscheduled J), (1, 500)) ∷ ((Task t1, Request 100), (1, 0)) ∷ [];
}
no_room = refl

-- The task is held, and then its machine comes back in a later incarnation, whose state is not told yet.

abbrev held : List Op
held = one_task ++ op.Propose t1 0 1 A 1 ∷ []

task_held : net_of (table_of held) ≡ record {
  nodes = Sink ∷ Unscheduled J ∷ Machine A ∷ Task t1 ∷ [];
  arcs = ((Unscheduled J, Sink), (1, 0)) ∷ ((Machine A, Sink), (2, 0)) ∷ ((Task t1, Unscheduled J), (1, 800)) ∷ ((Task t1, Machine A), (1, 0)) ∷ [];
}
task_held = refl

machine_closed : net_of (table_of (held ++ op.Report A 2 1 0 ∷ [])) ≡ record {
  nodes = Sink ∷ Unscheduled J ∷ Request 100 ∷ Task t1 ∷ [];
  arcs = ((Unscheduled J, Sink), (1, 0)) ∷ ((Task t1, Unscheduled J), (1, 500)) ∷ ((Task t1, Request 100), (1, 0)) ∷ [];
}
machine_closed = refl

-- A machine that is down is no node; what a withdrawn job or a withdrawn spec had standing is gone.
machine_down : net_of (table_of (held ++ op.Machine A 1 2 1 false 2 1000 ∷ [])) ≡ net_of (table_of (held ++ op.Report A 2 1 0 ∷ []))
machine_down = refl

abbrev machine_alone : Net
machine_alone = record { nodes = Sink ∷ Machine A ∷ []; arcs = ((Machine A, Sink), (2, 0)) ∷ [] }

job_withdrawn : net_of (table_of (held ++ op.Job J 2 1 true 500 800 ∷ [])) ≡ machine_alone
job_withdrawn = refl

spec_withdrawn : net_of (table_of (op.Spec t1 2 1 true J 100 [] ∷ held)) ≡ machine_alone
spec_withdrawn = refl

-- The arcs of the sets themselves, with no table between.
of_set_waiting : arc_in one_task (Request 100) (Machine A) ≡ Some (2, 100)
of_set_waiting = refl

of_set_held : arc_in held (Task t1) (Machine A) ≡ Some (1, 0)
of_set_held = refl

of_set_preempt : arc_in held (Task t1) (Unscheduled J) ≡ Some (1, 800)
of_set_preempt = refl

of_set_job : arc_in (task_of t2 0 ∷ one_task) (Unscheduled J) Sink ≡ Some (2, 0)
of_set_job = refl

of_set_request : is_node_in held (Request 100) ≡ false
of_set_request = refl

-- A request of 0 fits as often as there are slots, and not if the use is above the nic.

abbrev asks_nothing : List Op
asks_nothing = job_with 500 800 ∷ machine_with 2 ∷ task_of t1 0 ∷ []

request_of_0 : net_of (table_of (asks_nothing ++ op.Report A 1 1 40 ∷ [])) ≡ record {
  nodes = Sink ∷ Unscheduled J ∷ Request 0 ∷ Machine A ∷ Task t1 ∷ [];
  arcs = ((Unscheduled J, Sink), (1, 0)) ∷ ((Request 0, Machine A), (2, 40)) ∷ ((Machine A, Sink), (2, 0))
      ∷ ((Task t1, Unscheduled J), (1, 500)) ∷ ((Task t1, Request 0), (1, 0)) ∷ [];
}
request_of_0 = refl

no_spare : net_of (table_of (asks_nothing ++ op.Report A 1 1 1001 ∷ [])) ≡ record {
  nodes = Sink ∷ Unscheduled J ∷ Request 0 ∷ Machine A ∷ Task t1 ∷ [];
  arcs = ((Unscheduled J, Sink), (1, 0)) ∷ ((Machine A, Sink), (2, 0)) ∷ ((Task t1, Unscheduled J), (1, 500)) ∷ ((Task t1, Request 0), (1, 0)) ∷ [];
}
no_spare = refl

-- requests in order: two of 500 fit, and one of 600
two_requests : net_of (table_of (job_with 700 800 ∷ machine_with 2 ∷ task_of t1 600 ∷ task_of t2 500 ∷ [])) ≡ record {
  nodes = Sink ∷ Unscheduled J ∷ Request 500 ∷ Request 600 ∷ Machine A ∷ Task t1 ∷ Task t2 ∷ [];
  arcs = ((Unscheduled J, Sink), (2, 0)) ∷ ((Request 500, Machine A), (2, 500)) ∷ ((Request 600, Machine A), (1, 600)) ∷ ((Machine A, Sink), (2, 0))
      ∷ ((Task t1, Unscheduled J), (1, 700)) ∷ ((Task t1, Request 600), (1, 0)) ∷ ((Task t2, Unscheduled J), (1, 700)) ∷ ((Task t2, Request 500), (1, 0)) ∷ [];
}
two_requests = refl

-- a task is held and another waits: the load is the held task's request
one_held_one_waits : net_of (table_of (job_with 500 80 ∷ machine_with 1 ∷ task_of t1 100 ∷ op.Propose t1 0 1 A 1 ∷ task_of t2 0 ∷ op.Report A 1 1 0 ∷ [])) ≡ record {
  nodes = Sink ∷ Unscheduled J ∷ Request 0 ∷ Machine A ∷ Task t1 ∷ Task t2 ∷ [];
  arcs = ((Unscheduled J, Sink), (2, 0)) ∷ ((Request 0, Machine A), (1, 100)) ∷ ((Machine A, Sink), (1, 0))
      ∷ ((Task t1, Unscheduled J), (1, 80)) ∷ ((Task t1, Machine A), (1, 0)) ∷ ((Task t2, Unscheduled J), (1, 500)) ∷ ((Task t2, Request 0), (1, 0)) ∷ [];
}
one_held_one_waits = refl
