use Rattle.std.proofs.Common.{◌≡◌, true, false, drop}
use Rattle.fm_net.specs.declared.node.Node.{Node}
use Rattle.fm_net.specs.Nodes.{node_cmp}
use Rattle.fm_net.specs.Touched.{is_among}
use Rattle.fm_edit.specs.inner.Affected.{AffectedGrows}
use Rattle.fm_edit.specs.inner.Completing.{AddsSink, AddsPlaces, AddsPreferring, AddsMachines}
use Rattle.fm_edit.proofs.affected_pairs.touch_nodes.Given as goal

abbrev pub invariant-loop-node : goal.invariant-loop-node
invariant-loop-node l = record {
  grows : AffectedGrows l.fn.touched l.touched;
  same : l.touched.nodes ≡ l.fn.touched.nodes;
  sinks : (n : Node) → is_among node_cmp l.nodes n ≡ true → is_among node_cmp (drop l.node-index l.nodes) n ≡ false → AddsSink n l.touched;
  places : (n : Node) → is_among node_cmp l.nodes n ≡ true → is_among node_cmp (drop l.node-index l.nodes) n ≡ false → AddsPlaces l.requests n l.touched;
  preferring : (n : Node) → is_among node_cmp l.nodes n ≡ true → is_among node_cmp (drop l.node-index l.nodes) n ≡ false → AddsPreferring l.memory.index n l.touched;
  machines : (n : Node) → is_among node_cmp l.nodes n ≡ true → is_among node_cmp (drop l.node-index l.nodes) n ≡ false → AddsMachines l.memory l.network n l.touched;
}
