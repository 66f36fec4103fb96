use Rattle.std.proofs.Common.{length}
use Rattle.fm_cycles.specs.Residual.{residual}
use Rattle.fm_cycles.specs.inner.Labels.{parents_in}
use Rattle.fm_cycles.proofs.Traced.{SoFar}
use Rattle.fm_cycles.proofs.parent_graph.cycles_in.Given as goal

abbrev pub invariant-loop-start : goal.invariant-loop-start
invariant-loop-start l = SoFar (residual l.arcs l.units) (parents_in l.parents) (length l.parents) l.start l.visits.items l.cycles.items
