-- The operations by which a coordinator speaks after what it knows: each at the version or the attempt after the known
-- one. Delta-state CRDTs (Almeida, Shoker and Baquero): delta mutators; the operations are this project's profile.
use Rattle.std.specs.Prelude.{ℕ, ◌+◌, ◌==◌, Bool, cond, Option, Some, None, option_map}
use Rattle.fm_records.specs.declared.ops.Op.{Op}
use Rattle.fm_records.specs.declared.ops.Op.TheVariants as op
use Rattle.fm_records.specs.declared.ops.Phase.TheVariants.{Pending}
use Rattle.fm_records.specs.Options.{when, passes}
use Rattle.fm_records.specs.Ranges.{is_count, is_attempt}
use Rattle.fm_records.specs.Table.{Table}
use Rattle.fm_records.specs.Facts.{job_of, machine_state, incarnation_of, attempt_of}

-- the version after the known one, if there is a greater; 1 if none is known
abbrev pub next_version : Option ℕ → Option ℕ
next_version None = Some 1
next_version (Some v) = when (is_count (v + 1)) (v + 1)

-- the version of what is known of the job
abbrev pub job_version : Table → ℕ → Option ℕ
job_version k id = option_map (λ r. r.version) (job_of k id)

-- the version of the machine's state, if the incarnation is the present one and its state is known
abbrev pub state_version : Table → ℕ → ℕ → Option ℕ
state_version k id incarnation = cond (passes (λ i. i == incarnation) (incarnation_of k id)) (option_map (λ r. r.version) (machine_state k id)) None

-- the job at its next version
abbrev pub next_job_op : Table → ℕ → ℕ → Bool → ℕ → ℕ → Option Op
next_job_op k id writer withdrawn wait preempt = option_map (λ v. op.Job id v writer withdrawn wait preempt) (next_version (job_version k id))

-- the state of the machine at the incarnation, at the next version of that
abbrev pub next_machine_op : Table → ℕ → ℕ → ℕ → Bool → ℕ → ℕ → Option Op
next_machine_op k id incarnation writer up slots nic = option_map (λ v. op.Machine id incarnation v writer up slots nic) (next_version (state_version k id incarnation))

-- the task at its next attempt, pending, if there is a later one
abbrev pub next_attempt_op : Table → ℕ → Option Op
next_attempt_op k id = when (is_attempt (attempt_of k id + 1)) (op.Progress id (attempt_of k id + 1) Pending)
