-- The arcs so far lead to those that are left.
use Rattle.std.proofs.Common.{◌≡◌, ◌+◌, ◌-◌, ◌≤◌, [], length}
use Rattle.fm_dimacs.specs.Syntax.{Body, Reaches}
use Rattle.fm_dimacs.proofs.Arcs.{last_ends}
use Rattle.fm_dimacs.proofs.arc_lines.read_arcs.Given as goal

abbrev pub invariant-loop-done : goal.invariant-loop-done
invariant-loop-done l = record {
  nodes : l.network.nodes ≡ l.nodes;
  leads : Reaches l.done (Body l.nodes [] [] l.left) l.text (Body l.nodes [] l.network.arcs (l.left - l.done)) l.rest;
  last : l.last ≡ last_ends l.network.arcs;
  room : l.done + length l.rest ≤ length l.text;
}
