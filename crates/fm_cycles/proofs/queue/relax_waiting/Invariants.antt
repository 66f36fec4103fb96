use Rattle.std.proofs.Common.{ℕ, ◌<◌, ◌≤◌, ◌+◌, ◌^◌, length}
use Rattle.fm_cycles.specs.Residual.{residual}
use Rattle.fm_cycles.specs.inner.Labels.{IsCorrected}
use Rattle.fm_cycles.proofs.queue.relax_waiting.Given as goal

abbrev pub invariant-loop-left : goal.invariant-loop-left
invariant-loop-left l = (turns : ℕ) × (0 < l.left → turns + l.left ≤ length l.arcs) × (turns ≤ length l.arcs + 2 ^ 60) × IsCorrected (residual l.arcs l.units) turns l.fn.labels l.labels

abbrev pub decreases-loop-left : goal.decreases-loop-left
decreases-loop-left l = l.left
