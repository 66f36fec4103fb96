use Rattle.std.proofs.Common.{◌≡◌, take}
use Rattle.std.specs.Io.KnownBytes.{Appends}
use Rattle.fm_dimacs.specs.Text.{lines_from, node_line}
use Rattle.fm_dimacs.proofs.dump.put_nodes.Given as goal

abbrev pub invariant-loop-i : goal.invariant-loop-i
invariant-loop-i g l = record {
  appended : Appends (g.W.Out.written l.initial.out) (g.W.Out.written l.out) (lines_from node_line 1 (take l.i l.nodes));
  fails_not : g.W.Out.has_failed l.out ≡ g.W.Out.has_failed l.initial.out;
}
