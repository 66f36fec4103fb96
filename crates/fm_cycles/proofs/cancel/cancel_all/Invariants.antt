use Rattle.fm_cycles.proofs.Cancelled.{Cancelling}
use Rattle.fm_cycles.proofs.cancel.cancel_all.Given as goal

abbrev pub invariant-loop-cycle : goal.invariant-loop-cycle
invariant-loop-cycle l = Cancelling l.arcs l.fn.units l.units l.cycle-index
