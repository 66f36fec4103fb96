use Rattle.std.proofs.Common.{drop}
use Rattle.fm_cycles.specs.Residual.{residual}
use Rattle.fm_cycles.specs.inner.OpenWalks.{AreOpen}
use Rattle.fm_cycles.proofs.cancel.are_open.Given as goal

abbrev pub invariant-loop-step : goal.invariant-loop-step
invariant-loop-step l = AreOpen (residual l.arcs l.units) (drop l.step-index l.steps) → AreOpen (residual l.arcs l.units) l.steps
