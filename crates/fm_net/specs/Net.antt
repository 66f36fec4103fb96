-- A network as its nodes and arcs, and how changes affect it. Firmament, Quincy; the limits are this project's profile.
use Rattle.std.specs.Prelude.{◌≡◌, ℕ, ◌<◌, ◌≤◌, ◌^◌, ◌⊎◌, Bool, cond, List, [], ◌∷◌, Option, Some, IsTrue, IsSome}
use Rattle.std.specs.List.{list_any}
use Rattle.std.specs.Ordering.{is_eq}
use Rattle.fm_lattice.specs.Maps.{lookup, put, keep_new, IsRising}
use Rattle.fm_records.specs.declared.ops.TheConstants.{MOST_PRICE}
use Rattle.fm_records.specs.Sets.{insert_once}
use Rattle.fm_records.specs.Rising.{Rises}
use Rattle.fm_net.specs.declared.node.Node.{Node}
use Rattle.fm_net.specs.declared.node.Node.TheVariants.{Sink, Unscheduled, Request, Machine, Task}
use Rattle.fm_net.specs.Nodes.{node_cmp, ends_cmp, IsInRange}

-- nodes in order, and arcs with capacity and cost in the order of their ends
pub record Net : Type 0 where
  pub nodes : List Node
  pub arcs : List ((Node × Node) × (ℕ × ℕ))

-- whether the network has the node
abbrev pub has_node : Net → Node → Bool
has_node net n = list_any (λ m. is_eq (node_cmp n m)) net.nodes

-- capacity and cost of the arc from one node to the other, if there is one
abbrev pub arc_at : Net → Node → Node → Option (ℕ × ℕ)
arc_at net from to = lookup ends_cmp (from, to) net.arcs

-- an arc leaves or enters the node
abbrev pub IsTouched : Net → Node → Type 0
IsTouched net n = (m : Node) × (IsSome (arc_at net n m) ⊎ IsSome (arc_at net m n))

-- The kinds of nodes that an arc may join.
abbrev pub IsArcKind : Node → Node → Type 0
-- a task that is not held, to its request
IsArcKind (Task t) (Request r) = Unit {0}
-- a request to a machine with room for it
IsArcKind (Request r) (Machine m) = Unit {0}
-- a task to the machine that holds it, or to one that it prefers
IsArcKind (Task t) (Machine m) = Unit {0}
-- a task to its job
IsArcKind (Task t) (Unscheduled j) = Unit {0}
-- a machine, and a job, to the sink
IsArcKind (Machine m) Sink = Unit {0}
IsArcKind (Unscheduled j) Sink = Unit {0}
IsArcKind _ _ = ⊥

-- an arc that the network can have from one node to the other
pub record IsArc (net : Net) (from to : Node) (arc : ℕ × ℕ) : Type 0 where
  pub from_stands : IsTrue (has_node net from)
  pub to_stands : IsTrue (has_node net to)
  pub kinds : IsArcKind from to
  pub capacity_above : 1 ≤ arc.0
  pub capacity_fits : arc.0 < 2 ^ 64
  pub cost_within : arc.1 ≤ MOST_PRICE

-- the possible networks
pub record CanBeNet (net : Net) : Type 0 where
  pub has_sink : IsTrue (has_node net Sink)
  pub nodes_rise : Rises node_cmp net.nodes
  pub arcs_rise : IsRising ends_cmp net.arcs
  pub in_range : (n : Node) → IsTrue (has_node net n) → IsInRange n
  pub are_arcs : (from to : Node) (arc : ℕ × ℕ) → arc_at net from to ≡ Some arc → IsArc net from to arc

-- the network of the sink alone
abbrev pub sink_alone : Net
sink_alone = record { nodes = Sink ∷ []; arcs = [] }

-- the network with the node in its place
abbrev pub with_node : Node → Net → Net
with_node n net = record { nodes = insert_once node_cmp n net.nodes; arcs = net.arcs }

-- the list without the node
abbrev pub remove_node : Node → List Node → List Node
remove_node n [] = []
remove_node n (m ∷ ms) = cond (is_eq (node_cmp n m)) ms (m ∷ remove_node n ms)

-- the network without the node
abbrev pub without_node : Node → Net → Net
without_node n net = record { nodes = remove_node n net.nodes; arcs = net.arcs }

-- the network with the arc in its place, in place of an existing one
abbrev pub with_arc : Node → Node → ℕ × ℕ → Net → Net
with_arc from to arc net = record { nodes = net.nodes; arcs = put ends_cmp keep_new (from, to) arc net.arcs }

-- the arcs without the one between these ends
abbrev pub remove_arc : Node × Node → List ((Node × Node) × (ℕ × ℕ)) → List ((Node × Node) × (ℕ × ℕ))
remove_arc ends [] = []
remove_arc ends (a ∷ arcs) = cond (is_eq (ends_cmp ends a.0)) arcs (a ∷ remove_arc ends arcs)

-- the network without the arc from one node to the other
abbrev pub without_arc : Node → Node → Net → Net
without_arc from to net = record { nodes = net.nodes; arcs = remove_arc (from, to) net.arcs }

-- whether from and to are a and b
abbrev pub are_ends : Node → Node → Node → Node → Bool
are_ends from to a b = is_eq (ends_cmp (from, to) (a, b))
