-- How many live tasks each job has, by job.
use Rattle.std.specs.Prelude.{ℕ, List}
use Rattle.std.specs.Ordering.{nat_cmp}
use Rattle.fm_lattice.specs.Maps.{lookup}
use Rattle.fm_records.specs.Options.{or_else}

-- the count of the job, 0 if it has none
abbrev pub job_count : List (ℕ × ℕ) → ℕ → ℕ
job_count counts j = or_else 0 (lookup nat_cmp j counts)
