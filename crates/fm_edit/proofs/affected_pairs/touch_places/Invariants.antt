use Rattle.std.proofs.Common.{◌≡◌, true, false, drop}
use Rattle.fm_net.specs.declared.node.Node.{Node}
use Rattle.fm_net.specs.Nodes.{node_cmp}
use Rattle.fm_net.specs.Touched.{is_among}
use Rattle.fm_edit.specs.inner.Affected.{has_pair, AffectedGrows}
use Rattle.fm_edit.proofs.affected_pairs.touch_places.Given as goal

abbrev pub invariant-loop-request : goal.invariant-loop-request
invariant-loop-request l = record {
  grows : AffectedGrows l.fn.touched l.touched;
  same : l.touched.nodes ≡ l.fn.touched.nodes;
  has : (n : Node) → is_among node_cmp l.requests n ≡ true → is_among node_cmp (drop l.request-index l.requests) n ≡ false → has_pair l.touched n l.machine ≡ true;
}
