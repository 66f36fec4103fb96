use Rattle.std.proofs.Common.{◌≡◌, ◌++◌}
use Rattle.fm_tally.proofs.Each.{each}
use Rattle.fm_tally.proofs.job_counts.no_counts.Given as goal

abbrev pub invariant-loop-job : goal.invariant-loop-job
invariant-loop-job l = l.found.items ++ each (λ _. 0) l.job-iterator ≡ each (λ _. 0) l.knowledge.jobs
