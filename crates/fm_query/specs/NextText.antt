-- The version, or the attempt, of the next operation on a record, as a line (this project's profile).
use Rattle.std.specs.Prelude.{◌≡◌, ◌⊎◌, ℕ, List, ◌++◌, false, codes, decimal, Option, Some, None, option_map}
use Rattle.fm_records.specs.declared.ops.Op.{Op}
use Rattle.fm_records.specs.declared.ops.Op.TheVariants as op
use Rattle.fm_records.specs.declared.refusal.Refusal.{Refusal}
use Rattle.fm_records.specs.declared.refusal.Refusal.TheVariants.{OutOfMemory, VersionsSpent, AttemptsSpent}
use Rattle.fm_records.specs.Table.{Table}
use Rattle.fm_know.specs.Mutators.{next_job_op, next_machine_op, next_attempt_op}
use Rattle.fm_question.specs.declared.question.Subject.{Subject}
use Rattle.fm_question.specs.declared.question.Subject.TheVariants as subject

-- the next operation on the subject, as the mutators of what is known give it, if there is a greater version or attempt;
-- what it says besides does not matter here
abbrev pub next_op : Table → Subject → Option Op
next_op k (subject.Job id) = next_job_op k id 1 false 0 0
next_op k (subject.Machine id incarnation) = next_machine_op k id incarnation 1 false 1 0
next_op k (subject.Task id) = next_attempt_op k id

-- the version of an operation; the attempt, if it tells one, or the number of a report
abbrev pub op_number : Op → ℕ
op_number (op.Job id version writer withdrawn wait preempt) = version
op_number (op.Spec id version writer withdrawn job request prefer) = version
op_number (op.Progress id attempt phase) = attempt
op_number (op.Machine id incarnation version writer up slots nic) = version
op_number (op.Report id incarnation number used) = number
op_number (op.Propose id attempt coordinator machine incarnation) = attempt

abbrev pub next_number : Table → Subject → Option ℕ
next_number k s = option_map op_number (next_op k s)

-- why there is no next operation
abbrev pub spent : Subject → Refusal
spent (subject.Job id) = VersionsSpent
spent (subject.Machine id incarnation) = VersionsSpent
spent (subject.Task id) = AttemptsSpent

abbrev pub next_line : ℕ → List ℕ
next_line n = codes "next " ++ (decimal n ++ codes "\n")

-- the text tells the number of the next operation
abbrev pub IsNextText : Table → Subject → List ℕ → Type 0
IsNextText k s text = (n : ℕ) × (next_number k s ≡ Some n) × (text ≡ next_line n)

-- there is no next operation, and the refusal says so
abbrev pub HasNoNext : Table → Subject → Refusal → Type 0
HasNoNext k s refusal = (next_op k s ≡ None) × (refusal ≡ spent s)

-- why there is no text: that, or memory ran out
abbrev pub IsNoNext : Table → Subject → Refusal → Type 0
IsNoNext k s refusal = (refusal ≡ OutOfMemory) ⊎ HasNoNext k s refusal
