use Rattle.fm_cycles.specs.Residual.{residual}
use Rattle.fm_cycles.specs.inner.Labels.{IsCorrected}
use Rattle.fm_cycles.proofs.queue.scan.Given as goal

abbrev pub invariant-loop-place : goal.invariant-loop-place
invariant-loop-place l = IsCorrected (residual l.arcs l.units) l.place-index l.fn.labels l.labels
