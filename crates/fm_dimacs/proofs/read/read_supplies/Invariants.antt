-- The supplies of the nodes so far lead to those of the nodes to come.
use Rattle.std.proofs.Common.{ℕ, ◌+◌, ◌≤◌, [], length, drop}
use Rattle.fm_dimacs.specs.Syntax.{Body, Reaches, supplies_from}
use Rattle.fm_dimacs.proofs.read.read_supplies.Given as goal

abbrev pub invariant-loop-i : goal.invariant-loop-i
invariant-loop-i l = record {
  leads : (left : ℕ) → Reaches l.count (Body l.nodes (supplies_from 1 l.nodes) [] left) l.text (Body l.nodes (supplies_from (l.i + 1) (drop l.i l.nodes)) [] left) l.rest;
  room : l.count + length l.rest ≤ length l.text;
}
