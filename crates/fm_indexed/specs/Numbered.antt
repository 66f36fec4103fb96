-- A network by numbers: nodes by their place, and arcs in the network's order, their ends as places.
use Rattle.std.specs.Prelude.{◌≡◌, ℕ, List, [], ◌∷◌, Option, Some, None, slice_get}
use Rattle.fm_net.specs.declared.node.Node.{Node}
use Rattle.fm_net.specs.declared.node.Node.TheVariants as node
use Rattle.fm_net.specs.Net.{Net}
use Rattle.fm_cycles.specs.declared.indexed_arcs.IndexedArc.{IndexedArc}
use Rattle.fm_indexed.specs.declared.node_ranges.NodeRanges.{NodeRanges}
use Rattle.fm_indexed.specs.NodeRanges.{AreRangesOf}

-- an arc of a network: its ends, its capacity and its cost
abbrev pub NetArc : Type 0
NetArc = (Node × Node) × (ℕ × ℕ)

-- the ends are at their places, and capacity and cost are the arc's
pub record IsArcOf (nodes : List Node) (arc : NetArc) (a : IndexedArc) : Type 0 where
  pub from : slice_get nodes a.from ≡ Some arc.0.0
  pub to : slice_get nodes a.to ≡ Some arc.0.1
  pub capacity : a.capacity ≡ arc.1.0
  pub cost : a.cost ≡ arc.1.1

-- one for each arc, in turn
abbrev pub AreArcsOf : List Node → List NetArc → List IndexedArc → Type 0
AreArcsOf nodes [] [] = Unit {0}
AreArcsOf nodes (arc ∷ arcs) (a ∷ numbers) = IsArcOf nodes arc a × AreArcsOf nodes arcs numbers
AreArcsOf nodes _ _ = ⊥

-- these are the places of the network's nodes, and these its arcs
pub record IsNumbered (net : Net) (places : NodeRanges) (arcs : List IndexedArc) : Type 0 where
  pub at_places : AreRangesOf net.nodes places
  pub of_arcs : AreArcsOf net.nodes net.arcs arcs

-- the bandwidth of a request's node
abbrev pub bandwidth_in : Node → Option ℕ
bandwidth_in (node.Request r) = Some r
bandwidth_in (node.Sink) = None
bandwidth_in (node.Unscheduled j) = None
bandwidth_in (node.Machine m) = None
bandwidth_in (node.Task t) = None
