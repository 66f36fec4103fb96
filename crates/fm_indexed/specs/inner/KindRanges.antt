-- Where the nodes of a kind begin and end.
use Rattle.std.specs.Prelude.{ℕ, Bool, true, false}
use Rattle.fm_net.specs.declared.node.Node.{Node}
use Rattle.fm_net.specs.declared.node.Node.TheVariants as node
use Rattle.fm_indexed.specs.declared.node_ranges.NodeRanges.{NodeRanges}
use Rattle.fm_indexed.specs.declared.node_ranges.NodeKind.{NodeKind}
use Rattle.fm_indexed.specs.declared.node_ranges.NodeKind.TheVariants.{Sink, Unscheduled, Request, Machine, Task}

-- whether a kind is that of tasks
abbrev pub is_task : NodeKind → Bool
is_task Sink = false
is_task (Unscheduled i) = false
is_task (Request i) = false
is_task (Machine i) = false
is_task (Task i) = true

-- where nodes of the node's kind begin and end
abbrev pub range_start : NodeRanges → Node → ℕ
range_start places (node.Sink) = 0
range_start places (node.Unscheduled job) = places.jobs
range_start places (node.Request request) = places.requests
range_start places (node.Machine machine) = places.machines
range_start places (node.Task task) = places.tasks

abbrev pub range_end : NodeRanges → Node → ℕ
range_end places (node.Sink) = places.jobs
range_end places (node.Unscheduled job) = places.requests
range_end places (node.Request request) = places.machines
range_end places (node.Machine machine) = places.tasks
range_end places (node.Task task) = places.end
