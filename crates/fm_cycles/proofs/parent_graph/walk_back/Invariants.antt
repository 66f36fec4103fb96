use Rattle.std.proofs.Common.{◌-◌, length}
use Rattle.fm_cycles.specs.inner.Labels.{parents_in}
use Rattle.fm_cycles.specs.inner.ParentGraph.{value_count}
use Rattle.fm_cycles.proofs.Walked.{State}
use Rattle.fm_cycles.proofs.parent_graph.walk_back.Given as goal

abbrev pub invariant-back : goal.invariant-back
invariant-back l = State l.arcs l.units (length l.parents) (parents_in l.parents) l.start l.fn.visits l.visits l.walk.items l.node

abbrev pub decreases-back : goal.decreases-back
decreases-back l = length l.parents - value_count l.visits
