use Rattle.std.proofs.Common.{◌≡◌, ◌++◌}
use Rattle.fm_tally.proofs.tally.jobs_of.Given as goal

abbrev pub invariant-loop-job : goal.invariant-loop-job
invariant-loop-job l = l.found.items ++ l.job-iterator ≡ l.knowledge.jobs
