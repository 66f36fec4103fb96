-- The names of nodes and their order. The kinds are those of Firmament's network-aware policy, with Quincy's
-- unscheduled aggregators; the order is this project's profile.
use Rattle.std.specs.Prelude.{ℕ, ◌<◌, ◌≤◌, ◌^◌}
use Rattle.std.specs.Ordering.{nat_cmp, on, then_cmp}
use Rattle.std.specs.declared.cmp.Ordering.{Ordering}
use Rattle.fm_records.specs.declared.ops.TheConstants.{MOST_BANDWIDTH}
use Rattle.fm_net.specs.declared.node.Node.{Node}
use Rattle.fm_net.specs.declared.node.Node.TheVariants.{Sink, Unscheduled, Request, Machine, Task}
use Rattle.fm_net.specs.contracts.node.NodeOrd.TheImpl as node_ord

-- the place of a node's kind
abbrev pub kind : Node → ℕ
kind Sink = 0
kind (Unscheduled job) = 1
kind (Request request) = 2
kind (Machine machine) = 3
kind (Task task) = 4

-- the number of a node within its kind
abbrev pub number : Node → ℕ
number Sink = 0
number (Unscheduled job) = job
number (Request request) = request
number (Machine machine) = machine
number (Task task) = task

-- node order
abbrev pub by_kind_and_number : Node → Node → Ordering
by_kind_and_number = then_cmp (on kind nat_cmp) (on number nat_cmp)

-- the order that `Node` derives, which is node order
abbrev pub node_cmp : Node → Node → Ordering
node_cmp = (node_ord.ghosts).cmp

-- by the node that an arc leaves, then by the node that it enters
abbrev pub ends_cmp : Node × Node → Node × Node → Ordering
ends_cmp = then_cmp (on (λ e. e.0) node_cmp) (on (λ e. e.1) node_cmp)

-- a request is a bandwidth that a task may request
abbrev pub IsRequestInRange : Node → Type 0
IsRequestInRange Sink = Unit {0}
IsRequestInRange (Unscheduled job) = Unit {0}
IsRequestInRange (Request request) = request ≤ MOST_BANDWIDTH
IsRequestInRange (Machine machine) = Unit {0}
IsRequestInRange (Task task) = Unit {0}

-- a request is a bandwidth that a task may request, and an id has 128 bits
abbrev pub IsInRange : Node → Type 0
IsInRange Sink = Unit {0}
IsInRange (Unscheduled job) = job < 2 ^ 128
IsInRange (Request request) = request ≤ MOST_BANDWIDTH
IsInRange (Machine machine) = machine < 2 ^ 128
IsInRange (Task task) = task < 2 ^ 128
