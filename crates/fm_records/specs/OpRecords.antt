-- What one operation says: about what, and the record (this project's profile).
use Rattle.std.specs.Prelude.{ℕ, is_none, Option, Some, None}
use Rattle.fm_records.specs.declared.ops.Op.{Op}
use Rattle.fm_records.specs.declared.ops.Op.TheVariants as op
use Rattle.fm_records.specs.declared.records.JobReg.{JobReg}
use Rattle.fm_records.specs.declared.records.SpecReg.{SpecReg}
use Rattle.fm_records.specs.declared.records.Progress.{Progress}
use Rattle.fm_records.specs.declared.records.MachineReg.{MachineReg}
use Rattle.fm_records.specs.declared.records.Report.{Report}
use Rattle.fm_records.specs.declared.records.Spot.{Spot}
use Rattle.fm_records.specs.Options.{and_then, when}
use Rattle.fm_records.specs.Ops.{op_fault}

-- the job and its register
abbrev pub job_told : Op → Option (ℕ × JobReg)
job_told (op.Job id version writer withdrawn wait preempt) = Some (id, record { version = version; writer = writer; withdrawn = withdrawn; wait = wait; preempt = preempt })
job_told _ = None

-- the task and its spec
abbrev pub spec_told : Op → Option (ℕ × SpecReg)
spec_told (op.Spec id version writer withdrawn job request prefer) = Some (id, record { version = version; writer = writer; withdrawn = withdrawn; job = job; request = request; prefer = prefer })
spec_told _ = None

-- the task and its progress
abbrev pub progress_told : Op → Option (ℕ × Progress)
progress_told (op.Progress id attempt phase) = Some (id, record { attempt = attempt; phase = phase })
progress_told _ = None

-- a machine and an incarnation of it
abbrev pub incarnation_told : Op → Option (ℕ × ℕ)
incarnation_told (op.Machine id incarnation version writer up slots nic) = Some (id, incarnation)
incarnation_told (op.Report id incarnation number used) = Some (id, incarnation)
incarnation_told _ = None

-- a machine at an incarnation, and its state
abbrev pub state_told : Op → Option ((ℕ × ℕ) × MachineReg)
state_told (op.Machine id incarnation version writer up slots nic) = Some ((id, incarnation), record { version = version; writer = writer; up = up; slots = slots; nic = nic })
state_told _ = None

-- a machine at an incarnation, and its report
abbrev pub report_told : Op → Option ((ℕ × ℕ) × Report)
report_told (op.Report id incarnation number used) = Some ((id, incarnation), record { number = number; used = used })
report_told _ = None

-- a task at an attempt and a coordinator, and where it would run that
abbrev pub spot_told : Op → Option (((ℕ × ℕ) × ℕ) × Spot)
spot_told (op.Propose id attempt coordinator machine incarnation) = Some (((id, attempt), coordinator), record { machine = machine; incarnation = incarnation })
spot_told _ = None

-- the record that an operation tells, if all of its fields are in their ranges
abbrev pub record_of : {K R : Type 0} → (Op → Option (K × R)) → Op → Option R
record_of told o = and_then (λ e. when (is_none (op_fault o)) e.1) (told o)

abbrev pub job_record : Op → Option JobReg
job_record = record_of job_told

abbrev pub spec_record : Op → Option SpecReg
spec_record = record_of spec_told

abbrev pub progress_record : Op → Option Progress
progress_record = record_of progress_told

abbrev pub machine_record : Op → Option MachineReg
machine_record = record_of state_told

abbrev pub report_record : Op → Option Report
report_record = record_of report_told

abbrev pub spot_record : Op → Option Spot
spot_record = record_of spot_told
