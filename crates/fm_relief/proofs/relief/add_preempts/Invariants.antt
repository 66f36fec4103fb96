use Rattle.std.proofs.Common.{◌≡◌, ◌++◌, drop, map}
use Rattle.fm_relief.specs.Relief.{as_preempt}
use Rattle.fm_relief.proofs.relief.add_preempts.Given as goal

abbrev pub invariant-loop-held : goal.invariant-loop-held
invariant-loop-held l = l.preempts.items ++ map as_preempt (drop l.held-index l.tasks) ≡ l.fn.preempts.items ++ map as_preempt l.tasks
