use Rattle.std.specs.Prelude.{◌≡◌, ◌++◌}
use Rattle.fm_edit.specs.inner.EditorFacts.{node_by, arc_by}
use Rattle.fm_edit.specs.inner.Diff.{nodes_that_go, nodes_that_come}
use Rattle.fm_edit.proofs.editor_state.EditorState.add_nodes.Given as goal

abbrev pub invariant-loop-node : goal.invariant-loop-node
invariant-loop-node l = record {
  going : l.going.items ++ nodes_that_go l.network (node_by l.self) (arc_by l.self) l.node-iterator ≡ l.fn.going.items ++ nodes_that_go l.network (node_by l.self) (arc_by l.self) l.nodes.keys;
  coming : l.coming.items ++ nodes_that_come l.network (node_by l.self) (arc_by l.self) l.node-iterator ≡ l.fn.coming.items ++ nodes_that_come l.network (node_by l.self) (arc_by l.self) l.nodes.keys;
}
