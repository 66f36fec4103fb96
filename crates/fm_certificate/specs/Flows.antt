-- Flows of a network, what they cost, and the least of them. Textbook: the minimum-cost flow problem.
use Rattle.std.specs.Prelude.{◌≡◌, ℕ, ◌*◌, ◌≤◌, Bool, true, false, cond, List, Some, IsTrue}
use Rattle.std.specs.List.{sum_by}
use Rattle.fm_lattice.specs.Maps.{lookup}
use Rattle.fm_records.specs.Options.{or_else}
use Rattle.fm_net.specs.declared.node.Node.{Node}
use Rattle.fm_net.specs.declared.node.Node.TheVariants.{Sink, Unscheduled, Request, Machine, Task}
use Rattle.fm_net.specs.Nodes.{ends_cmp}
use Rattle.fm_net.specs.Net.{Net, has_node, arc_at}
use Rattle.fm_net.specs.NetworkEquality.{same_node}

-- a flow gives the arc from one node to another its units
abbrev pub Units : Type 0
Units = Node → Node → ℕ

-- the units that a map gives; 0 if it has none
abbrev pub units_in : List ((Node × Node) × ℕ) → Units
units_in flow from to = or_else 0 (lookup ends_cmp (from, to) flow)

-- the units that leave the node over the arcs
abbrev pub leaving : Net → Units → Node → ℕ
leaving net units n = sum_by (λ a. cond (same_node a.0.0 n) (units a.0.0 a.0.1) 0) net.arcs

-- the units that enter it
abbrev pub entering : Net → Units → Node → ℕ
entering net units n = sum_by (λ a. cond (same_node a.0.1 n) (units a.0.0 a.0.1) 0) net.arcs

-- nodes that neither give nor take units
abbrev pub is_between : Node → Bool
is_between Sink = false
is_between (Unscheduled job) = true
is_between (Request request) = true
is_between (Machine machine) = true
is_between (Task task) = false

-- each arc has at most its capacity, each task sends one unit, and the nodes between tasks and sink keep none
pub record IsFeasible (net : Net) (units : Units) : Type 0 where
  pub within : (from to : Node) (arc : ℕ × ℕ) → arc_at net from to ≡ Some arc → units from to ≤ arc.0
  pub sent : (t : ℕ) → IsTrue (has_node net (Task t)) → leaving net units (Task t) ≡ 1
  pub kept : (n : Node) → IsTrue (has_node net n) → IsTrue (is_between n) → entering net units n ≡ leaving net units n

-- the sum of cost times units
abbrev pub cost_of : Net → Units → ℕ
cost_of net units = sum_by (λ a. a.1.1 * units a.0.0 a.0.1) net.arcs

-- a feasible flow that no feasible flow goes below in cost
pub record IsLeast (net : Net) (units : Units) : Type 0 where
  pub feasible : IsFeasible net units
  pub least : (others : Units) → IsFeasible net others → cost_of net units ≤ cost_of net others
