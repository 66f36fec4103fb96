-- The operations that a table is written out as, and the form of the tables of operations.
use Rattle.std.specs.Prelude.{◌≡◌, ℕ, List, [], ◌∷◌, ◌++◌, Option, Some, None, flat_map, map}
use Rattle.std.specs.Ordering.{nat_cmp}
use Rattle.fm_records.specs.declared.ops.Op.{Op}
use Rattle.fm_records.specs.declared.ops.Op.TheVariants as op
use Rattle.fm_records.specs.declared.records.JobReg.{JobReg}
use Rattle.fm_records.specs.declared.records.SpecReg.{SpecReg}
use Rattle.fm_records.specs.declared.records.Progress.{Progress}
use Rattle.fm_records.specs.declared.records.MachineReg.{MachineReg}
use Rattle.fm_records.specs.declared.records.Report.{Report}
use Rattle.fm_records.specs.declared.records.Spot.{Spot}
use Rattle.fm_lattice.specs.Joins.{Any}
use Rattle.fm_lattice.specs.Maps.{IsMap, IsRising}
use Rattle.fm_records.specs.Sets.{unless_empty}
use Rattle.fm_records.specs.Orders.{attempt_cmp}
use Rattle.fm_records.specs.Table.{Table, TaskValue, MachineValue}

-- the one of what is there
abbrev pub each : {A B : Type 0} → (A → B) → Option A → List B
each f None = []
each f (Some a) = f a ∷ []

-- the operation that tells one record
abbrev pub job_op : ℕ → JobReg → Op
job_op j r = op.Job j r.version r.writer r.withdrawn r.wait r.preempt

abbrev pub spec_op : ℕ → SpecReg → Op
spec_op t r = op.Spec t r.version r.writer r.withdrawn r.job r.request r.prefer

abbrev pub progress_op : ℕ → Progress → Op
progress_op t p = op.Progress t p.attempt p.phase

abbrev pub machine_op : ℕ → ℕ → MachineReg → Op
machine_op m i r = op.Machine m i r.version r.writer r.up r.slots r.nic

abbrev pub report_op : ℕ → ℕ → Report → Op
report_op m i r = op.Report m i r.number r.used

abbrev pub propose_op : ℕ × ℕ → ℕ → Spot → Op
propose_op at c s = op.Propose at.0 at.1 c s.machine s.incarnation

-- the operations of a job's record, of a task's, of a machine's, and of an attempt's entries
abbrev pub job_ops : ℕ × JobReg → List Op
job_ops e = job_op e.0 e.1 ∷ []

abbrev pub task_ops : ℕ × TaskValue → List Op
task_ops e = each (spec_op e.0) e.1.0 ++ progress_op e.0 e.1.1 ∷ []

abbrev pub machine_ops : ℕ × MachineValue → List Op
machine_ops e = each (machine_op e.0 e.1.0) e.1.1.0 ++ each (report_op e.0 e.1.0) e.1.1.1

abbrev pub entry_ops : (ℕ × ℕ) × List (ℕ × Spot) → List Op
entry_ops e = map (λ c. propose_op e.0 c.0 c.1) e.1

-- the operations that the table is written out as
abbrev pub ops : Table → List Op
ops k =
    flat_map job_ops k.jobs
    ++ flat_map task_ops k.tasks
    ++ flat_map machine_ops k.machines
    ++ flat_map entry_ops k.proposals

-- a machine occurs only by a state or a report
abbrev pub has_part : MachineValue → Type 0
has_part (i, (None, None)) = ⊥
has_part (i, (None, Some r)) = Unit {0}
has_part (i, (Some s, r)) = Unit {0}

-- an attempt occurs only by an entry
pub record IsFull (es : List (ℕ × Spot)) : Type 0 where
  pub rising : IsRising nat_cmp es
  pub full : unless_empty es ≡ Some es

-- the form of a table: keys rise, and nothing occurs without a record
pub record IsTable (k : Table) : Type 0 where
  pub jobs : IsMap nat_cmp Any k.jobs
  pub tasks : IsMap nat_cmp Any k.tasks
  pub machines : IsMap nat_cmp has_part k.machines
  pub proposals : IsMap attempt_cmp IsFull k.proposals
