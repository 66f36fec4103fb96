-- The comments so far lead from the start to the rest, which only becomes shorter.
use Rattle.std.proofs.Common.{[], length}
use Rattle.fm_dimacs.specs.Syntax.{Comments, Reaches}
use Rattle.fm_dimacs.proofs.read.read_nodes.Given as goal

abbrev pub invariant-loop-refusal : goal.invariant-loop-refusal
invariant-loop-refusal l = Reaches (length l.nodes.items) (Comments []) l.text (Comments l.nodes.items) l.rest

abbrev pub decreases-loop-refusal : goal.decreases-loop-refusal
decreases-loop-refusal l = length l.rest
