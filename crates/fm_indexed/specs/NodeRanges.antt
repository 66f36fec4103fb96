-- Nodes by their place in node order: where the nodes of each kind begin.
use Rattle.std.specs.Prelude.{◌≡◌, ℕ, ◌-◌, cond, List, length, nat_lt}
use Rattle.std.specs.List.{filter}
use Rattle.fm_net.specs.declared.node.Node.{Node}
use Rattle.fm_net.specs.Nodes.{kind}
use Rattle.fm_indexed.specs.declared.node_ranges.NodeRanges.{NodeRanges}
use Rattle.fm_indexed.specs.declared.node_ranges.NodeKind.{NodeKind}
use Rattle.fm_indexed.specs.declared.node_ranges.NodeKind.TheVariants.{Sink, Unscheduled, Request, Machine, Task}

-- how many of the nodes are of a lower kind than this
abbrev pub count_below : ℕ → List Node → ℕ
count_below rank nodes = length (filter (λ n. nat_lt (kind n) rank) nodes)

-- each kind begins behind the nodes of lower kinds
pub record AreRangesOf (nodes : List Node) (places : NodeRanges) : Type 0 where
  pub jobs : places.jobs ≡ count_below 1 nodes
  pub requests : places.requests ≡ count_below 2 nodes
  pub machines : places.machines ≡ count_below 3 nodes
  pub tasks : places.tasks ≡ count_below 4 nodes
  pub end : places.end ≡ length nodes

-- the kind of the node at a place, and its place among those of that kind
abbrev pub kind_at : NodeRanges → ℕ → NodeKind
kind_at places v =
    cond (nat_lt v places.jobs) Sink
    (cond (nat_lt v places.requests) (Unscheduled (v - places.jobs))
    (cond (nat_lt v places.machines) (Request (v - places.requests))
    (cond (nat_lt v places.tasks) (Machine (v - places.machines)) (Task (v - places.tasks)))))
