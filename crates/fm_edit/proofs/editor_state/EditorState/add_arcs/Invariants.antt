use Rattle.std.specs.Prelude.{◌≡◌, ◌++◌}
use Rattle.fm_edit.specs.inner.EditorFacts.{node_by, arc_by, AreKnownBy}
use Rattle.fm_edit.specs.inner.Diff.{arcs_that_go, arcs_that_come}
use Rattle.fm_edit.proofs.editor_state.EditorState.add_arcs.Given as goal

abbrev pub invariant-loop-pair : goal.invariant-loop-pair
invariant-loop-pair l = record {
  place : AreKnownBy l.self l.last;
  going : l.going.items ++ arcs_that_go l.network (node_by l.self) (arc_by l.self) l.pair-iterator ≡ l.fn.going.items ++ arcs_that_go l.network (node_by l.self) (arc_by l.self) l.pairs.keys;
  coming : l.coming.items ++ arcs_that_come l.network (node_by l.self) (arc_by l.self) l.pair-iterator ≡ l.fn.coming.items ++ arcs_that_come l.network (node_by l.self) (arc_by l.self) l.pairs.keys;
}
