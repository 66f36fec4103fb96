use Rattle.std.proofs.Common.{◌*◌, ◌^◌}
use Rattle.fm_cycles.specs.Residual.{residual}
use Rattle.fm_cycles.specs.inner.Labels.{IsCorrectedWithin}
use Rattle.fm_cycles.proofs.queue.relax_by_queue.Given as goal

abbrev pub invariant-loop-pass : goal.invariant-loop-pass
invariant-loop-pass l = IsCorrectedWithin (residual l.arcs l.units) (l.pass * 2 ^ 61) l.fn.labels l.labels
