use Rattle.std.proofs.Common.{◌≡◌, ◌≤◌, ℕ, take}
use Rattle.std.specs.Prelude.{count_by}
use Rattle.fm_tally.specs.JobCounts.{job_count}
use Rattle.fm_tally.proofs.JobCounting.{of_job}
use Rattle.fm_tally.proofs.job_counts.job_counts.Given as goal

abbrev pub invariant-loop-entry : goal.invariant-loop-entry
invariant-loop-entry l = record {
  counts : (j : ℕ) → job_count l.counts j ≡ count_by (of_job j) (take l.entry-index l.pairs);
  few : (j : ℕ) → job_count l.counts j ≤ l.entry-index;
}
