-- The orders of records and keys (this project's profile).
use Rattle.std.specs.Prelude.{ℕ}
use Rattle.std.specs.Ordering.{nat_cmp, bool_cmp, on, then_cmp}
use Rattle.std.specs.declared.cmp.Ordering.{Ordering}
use Rattle.fm_records.specs.declared.ops.Phase.{Phase}
use Rattle.fm_records.specs.declared.ops.Phase.TheVariants.{Pending, Running, Done}
use Rattle.fm_records.specs.contracts.ops.PhaseOrd.TheImpl as phase_ord
use Rattle.fm_records.specs.declared.records.JobReg.{JobReg}
use Rattle.fm_records.specs.declared.records.SpecReg.{SpecReg}
use Rattle.fm_records.specs.declared.records.Progress.{Progress}
use Rattle.fm_records.specs.declared.records.MachineReg.{MachineReg}
use Rattle.fm_records.specs.declared.records.Report.{Report}
use Rattle.fm_records.specs.declared.records.Spot.{Spot}
use Rattle.fm_records.specs.Preferences.{preferences_cmp}

-- the place of a phase: Pending, Running, Done
abbrev pub phase_place : Phase → ℕ
phase_place Pending = 0
phase_place Running = 1
phase_place Done = 2

-- by place; written as the order that is derived for the type, which a law says is that
abbrev pub phase_cmp : Phase → Phase → Ordering
phase_cmp = (phase_ord.ghosts).cmp

-- by version, writer, and then the other fields, false before true
abbrev pub job_cmp : JobReg → JobReg → Ordering
job_cmp = then_cmp (on (λ r. r.version) nat_cmp) (then_cmp (on (λ r. r.writer) nat_cmp) (then_cmp (on (λ r. r.withdrawn) bool_cmp) (then_cmp (on (λ r. r.wait) nat_cmp) (on (λ r. r.preempt) nat_cmp))))

-- by version, writer, and then the other fields, false before true
abbrev pub spec_cmp : SpecReg → SpecReg → Ordering
spec_cmp = then_cmp (on (λ r. r.version) nat_cmp) (then_cmp (on (λ r. r.writer) nat_cmp) (then_cmp (on (λ r. r.withdrawn) bool_cmp) (then_cmp (on (λ r. r.job) nat_cmp) (then_cmp (on (λ r. r.request) nat_cmp) (on (λ r. r.prefer) preferences_cmp)))))

-- by version, writer, and then the other fields, false before true
abbrev pub machine_cmp : MachineReg → MachineReg → Ordering
machine_cmp = then_cmp (on (λ r. r.version) nat_cmp) (then_cmp (on (λ r. r.writer) nat_cmp) (then_cmp (on (λ r. r.up) bool_cmp) (then_cmp (on (λ r. r.slots) nat_cmp) (on (λ r. r.nic) nat_cmp))))

-- by number and then use
abbrev pub report_cmp : Report → Report → Ordering
report_cmp = then_cmp (on (λ r. r.number) nat_cmp) (on (λ r. r.used) nat_cmp)

-- by attempt and then phase
abbrev pub progress_cmp : Progress → Progress → Ordering
progress_cmp = then_cmp (on (λ p. p.attempt) nat_cmp) (on (λ p. p.phase) phase_cmp)

-- by machine and then incarnation
abbrev pub spot_cmp : Spot → Spot → Ordering
spot_cmp = then_cmp (on (λ s. s.machine) nat_cmp) (on (λ s. s.incarnation) nat_cmp)

-- by task and then attempt
abbrev pub attempt_cmp : ℕ × ℕ → ℕ × ℕ → Ordering
attempt_cmp = then_cmp (on (λ k. k.0) nat_cmp) (on (λ k. k.1) nat_cmp)
