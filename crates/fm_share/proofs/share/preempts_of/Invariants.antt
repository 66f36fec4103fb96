use Rattle.std.proofs.Common.{◌≡◌, ◌++◌, drop, filter}
use Rattle.fm_share.specs.Shares.{has_task}
use Rattle.fm_share.proofs.share.preempts_of.Given as goal

abbrev pub invariant-loop-preempt : goal.invariant-loop-preempt
invariant-loop-preempt l = l.found.items ++ filter (λ p. has_task l.knowledge l.writers p.task) (drop l.preempt-index l.preempts) ≡ filter (λ p. has_task l.knowledge l.writers p.task) l.preempts
