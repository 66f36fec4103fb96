-- All tasks unscheduled: a unit on each arc to a job, and from each job on to the sink as many as enter it.
use Rattle.std.specs.Prelude.{ℕ, Bool, true, false, cond, List, map}
use Rattle.fm_net.specs.Net.{Net, CanBeNet}
use Rattle.fm_certificate.specs.PolicyNetwork.{IsBuilt}
use Rattle.fm_cycles.specs.declared.indexed_arcs.IndexedArc.{IndexedArc}
use Rattle.fm_cycles.specs.Units.{inflow_at}
use Rattle.fm_indexed.specs.declared.node_ranges.NodeRanges.{NodeRanges}
use Rattle.fm_indexed.specs.declared.node_ranges.NodeKind.{NodeKind}
use Rattle.fm_indexed.specs.declared.node_ranges.NodeKind.TheVariants.{Sink, Unscheduled, Request, Machine, Task}
use Rattle.fm_indexed.specs.NodeRanges.{kind_at}
use Rattle.fm_indexed.specs.Numbered.{IsNumbered}
use Rattle.fm_indexed.specs.Feasible.{IsFlowOf}

-- the units on an arc that leads to a node of this kind, if so many enter its source
abbrev pub unscheduled_by : NodeKind → ℕ → ℕ
unscheduled_by Sink entered = entered
unscheduled_by (Unscheduled i) entered = 1
unscheduled_by (Request i) entered = 0
unscheduled_by (Machine i) entered = 0
unscheduled_by (Task i) entered = 0

-- a unit on each arc to a job
abbrev pub unit_on_job_arcs : NodeRanges → List IndexedArc → List ℕ
unit_on_job_arcs places arcs = map (λ a. unscheduled_by (kind_at places a.to) 0) arcs

-- and on each arc to the sink as many as enter its source
abbrev pub all_unscheduled : NodeRanges → List IndexedArc → List ℕ
all_unscheduled places arcs = map (λ a. unscheduled_by (kind_at places a.to) (inflow_at arcs (unit_on_job_arcs places arcs) a.from)) arcs

-- in every network that the policy can build this is a flow
abbrev pub AreFlows : Type 0
AreFlows = (net : Net) (places : NodeRanges) (arcs : List IndexedArc) → CanBeNet net → IsBuilt net → IsNumbered net places arcs → IsFlowOf places arcs (all_unscheduled places arcs)
