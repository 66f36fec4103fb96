-- The rules of the policy over single values.
use Rattle.std.specs.Prelude.{ℕ, true, cond, Option}
use Rattle.fm_records.specs.declared.records.JobReg.{JobReg}
use Rattle.fm_records.specs.Options.{passes}

-- the price of a live task's arc to its job: that of a preemption if a machine holds the task, else that of waiting
abbrev pub job_price : JobReg → Option ℕ → ℕ
job_price job holder = cond (passes (λ m. true) holder) job.preempt job.wait
