use Rattle.std.proofs.Common.{length}
use Rattle.fm_cycles.specs.Residual.{residual}
use Rattle.fm_cycles.proofs.Swept.{IsPartlySwept, Before}
use Rattle.fm_cycles.proofs.labels.sweep.Given as goal

abbrev pub invariant-loop-turn : goal.invariant-loop-turn
invariant-loop-turn l = IsPartlySwept (residual l.arcs l.units) (Before l.backwards (length l.arcs) l.turn) l.turn l.fn.labels l.labels
