-- Equality of tables, as a test that computes: entry by entry; two values are one if their order says so.
use Rattle.std.specs.Prelude.{ℕ, Bool, true, false, ◌&&◌, List, Option, Some, None}
use Rattle.std.specs.Cmp.Lexicographic.{pointwise}
use Rattle.std.specs.Ordering.{nat_cmp, is_eq}
use Rattle.std.specs.declared.cmp.Ordering.{Ordering}
use Rattle.fm_records.specs.declared.records.JobReg.{JobReg}
use Rattle.fm_records.specs.declared.records.Spot.{Spot}
use Rattle.fm_records.specs.Orders.{job_cmp, spec_cmp, progress_cmp, machine_cmp, report_cmp, spot_cmp, attempt_cmp}
use Rattle.fm_records.specs.Table.{Table, TaskValue, MachineValue}

-- whether the order says that two values are one
abbrev pub same_by : {A : Type 0} → (A → A → Ordering) → A → A → Bool
same_by cmp a b = is_eq (cmp a b)

-- whether both parts are one
abbrev pub by_parts : {A B : Type 0} → (A → A → Bool) → (B → B → Bool) → A × B → A × B → Bool
by_parts same_a same_b x y = same_a x.0 y.0 && same_b x.1 y.1

-- whether both or neither are there, and are one
abbrev pub by_value : {A : Type 0} → (A → A → Bool) → Option A → Option A → Bool
by_value same None None = true
by_value same None (Some b) = false
by_value same (Some a) None = false
by_value same (Some a) (Some b) = same a b

abbrev pub same_jobs : List (ℕ × JobReg) → List (ℕ × JobReg) → Bool
same_jobs = pointwise (by_parts (same_by nat_cmp) (same_by job_cmp))

abbrev pub same_tasks : List (ℕ × TaskValue) → List (ℕ × TaskValue) → Bool
same_tasks = pointwise (by_parts (same_by nat_cmp) (by_parts (by_value (same_by spec_cmp)) (same_by progress_cmp)))

abbrev pub same_machines : List (ℕ × MachineValue) → List (ℕ × MachineValue) → Bool
same_machines = pointwise (by_parts (same_by nat_cmp) (by_parts (same_by nat_cmp) (by_parts (by_value (same_by machine_cmp)) (by_value (same_by report_cmp)))))

abbrev pub same_proposals : List ((ℕ × ℕ) × List (ℕ × Spot)) → List ((ℕ × ℕ) × List (ℕ × Spot)) → Bool
same_proposals = pointwise (by_parts (same_by attempt_cmp) (pointwise (by_parts (same_by nat_cmp) (same_by spot_cmp))))

abbrev pub same_table : Table → Table → Bool
same_table k l = (same_jobs k.jobs l.jobs && same_tasks k.tasks l.tasks) && (same_machines k.machines l.machines && same_proposals k.proposals l.proposals)
