-- The table of a set of operations: the greatest of each register, and the table of all that occurs.
-- Delta-state CRDTs (Almeida, Shoker and Baquero): a state stands for the set of updates that it includes.
use Rattle.std.specs.Prelude.{ℕ, Bool, ◌==◌, ◌&&◌, List, Option, Some, None, option_map}
use Rattle.std.specs.List.{filter_map}
use Rattle.std.specs.Ordering.{nat_cmp}
use Rattle.fm_records.specs.declared.ops.Phase.TheVariants.{Pending}
use Rattle.fm_records.specs.declared.ops.Op.{Op}
use Rattle.fm_records.specs.declared.ops.Op.TheVariants as op
use Rattle.fm_records.specs.declared.records.JobReg.{JobReg}
use Rattle.fm_records.specs.declared.records.SpecReg.{SpecReg}
use Rattle.fm_records.specs.declared.records.Progress.{Progress}
use Rattle.fm_records.specs.declared.records.MachineReg.{MachineReg}
use Rattle.fm_records.specs.declared.records.Report.{Report}
use Rattle.fm_records.specs.declared.records.Spot.{Spot}
pub use Rattle.fm_records.specs.Options.{when}
use Rattle.fm_records.specs.Options.{and_then, or_else}
use Rattle.fm_records.specs.Sets.{greatest, least, with_value, table, unless_empty}
use Rattle.fm_records.specs.Orders.{job_cmp, spec_cmp, progress_cmp, machine_cmp, report_cmp, spot_cmp, attempt_cmp}
use Rattle.fm_records.specs.OpRecords.{job_told, spec_told, progress_told, incarnation_told, state_told, report_told, spot_told}
use Rattle.fm_records.specs.Table.{Table, TaskValue, MachineValue}

-- the second part of a pair whose first part passes the test
abbrev pub second_if : {K V : Type 0} → (K → Bool) → Option (K × V) → Option V
second_if test o = and_then (λ e. when (test e.0) e.1) o

-- what an operation tells of the job, of the task, and of the machine
abbrev pub job_in : ℕ → Op → Option JobReg
job_in j o = second_if (λ id. id == j) (job_told o)

abbrev pub spec_in : ℕ → Op → Option SpecReg
spec_in t o = second_if (λ id. id == t) (spec_told o)

abbrev pub progress_in : ℕ → Op → Option Progress
progress_in t o = second_if (λ id. id == t) (progress_told o)

abbrev pub incarnation_in : ℕ → Op → Option ℕ
incarnation_in m o = second_if (λ id. id == m) (incarnation_told o)

-- what an operation tells of the machine at the incarnation
abbrev pub state_in : ℕ → ℕ → Op → Option MachineReg
state_in m i o = second_if (λ at. at.0 == m && at.1 == i) (state_told o)

abbrev pub report_in : ℕ → ℕ → Op → Option Report
report_in m i o = second_if (λ at. at.0 == m && at.1 == i) (report_told o)

-- the coordinator that an operation names for the task's attempt, and where that would run it
abbrev pub coordinator_in : ℕ × ℕ → Op → Option ℕ
coordinator_in at o = second_if (λ a. a.0 == at.0 && a.1 == at.1) (option_map (λ e. e.0) (spot_told o))

abbrev pub spot_in : ℕ × ℕ → ℕ → Op → Option Spot
spot_in at c o = second_if (λ a. a.0.0 == at.0 && a.0.1 == at.1 && a.1 == c) (spot_told o)

-- the register of a job, and the spec of a task: the greatest told
abbrev pub job : List Op → ℕ → Option JobReg
job S j = greatest job_cmp (filter_map (job_in j) S)

abbrev pub spec : List Op → ℕ → Option SpecReg
spec S t = greatest spec_cmp (filter_map (spec_in t) S)

-- the progress of a task: the greatest told, and attempt 0 pending if none is
abbrev pub initial_progress : Progress
initial_progress = record { attempt = 0; phase = Pending }

abbrev pub greatest_progress : List Op → ℕ → Option Progress
greatest_progress S t = greatest progress_cmp (filter_map (progress_in t) S)

abbrev pub progress : List Op → ℕ → Progress
progress S t = or_else initial_progress (greatest_progress S t)

-- the incarnation of a machine: the greatest told
abbrev pub incarnation : List Op → ℕ → Option ℕ
incarnation S m = greatest nat_cmp (filter_map (incarnation_in m) S)

-- the state and the report of a machine: the greatest told at its incarnation
abbrev pub state_at : List Op → ℕ → ℕ → Option MachineReg
state_at S m i = greatest machine_cmp (filter_map (state_in m i) S)

abbrev pub report_at : List Op → ℕ → ℕ → Option Report
report_at S m i = greatest report_cmp (filter_map (report_in m i) S)

abbrev pub state : List Op → ℕ → Option MachineReg
state S m = and_then (state_at S m) (incarnation S m)

abbrev pub report : List Op → ℕ → Option Report
report S m = and_then (report_at S m) (incarnation S m)

-- a coordinator's entry for a task's attempt: the least spot that it proposed
abbrev pub entry : List Op → ℕ × ℕ → ℕ → Option Spot
entry S at c = least spot_cmp (filter_map (spot_in at c) S)

-- the winner of a task's attempt: the entry of the least coordinator that has one
abbrev pub winner : List Op → ℕ × ℕ → Option (ℕ × Spot)
winner S at = and_then (with_value (entry S at)) (least nat_cmp (filter_map (coordinator_in at) S))

-- the names that operations mention
abbrev pub job_named : Op → Option ℕ
job_named o = option_map (λ e. e.0) (job_told o)

abbrev pub task_named : Op → Option ℕ
task_named (op.Spec id version writer withdrawn job request prefer) = Some id
task_named (op.Progress id attempt phase) = Some id
task_named _ = None

abbrev pub machine_named : Op → Option ℕ
machine_named o = option_map (λ e. e.0) (incarnation_told o)

abbrev pub attempt_named : Op → Option (ℕ × ℕ)
attempt_named o = option_map (λ e. e.0.0) (spot_told o)

abbrev pub coordinator_named : Op → Option ℕ
coordinator_named o = option_map (λ e. e.0.1) (spot_told o)

-- the record of a task: a spec or a progress makes one
abbrev pub task_value : Option SpecReg → Option Progress → Option TaskValue
task_value None None = None
task_value None (Some p) = Some (None, p)
task_value (Some s) told = Some (Some s, or_else initial_progress told)

abbrev pub task : List Op → ℕ → Option TaskValue
task S t = task_value (spec S t) (greatest_progress S t)

-- the record of a machine: a state or a report makes one
abbrev pub machine_at : List Op → ℕ → ℕ → MachineValue
machine_at S m i = (i, (state_at S m i, report_at S m i))

abbrev pub machine : List Op → ℕ → Option MachineValue
machine S m = option_map (machine_at S m) (incarnation S m)

-- the entries for a task's attempt, by coordinator, if there are any
abbrev pub entries : List Op → ℕ × ℕ → Option (List (ℕ × Spot))
entries S at = unless_empty (table nat_cmp (filter_map coordinator_named S) (entry S at))

-- the table of all that occurs in the set
abbrev pub table_of : List Op → Table
table_of S = record {
  jobs = table nat_cmp (filter_map job_named S) (job S);
  tasks = table nat_cmp (filter_map task_named S) (task S);
  machines = table nat_cmp (filter_map machine_named S) (machine S);
  proposals = table attempt_cmp (filter_map attempt_named S) (entries S);
}
