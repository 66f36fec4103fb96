-- A packet with one record of each kind at most is short.
use Rattle.std.proofs.Common.{◌≡◌, ℕ, ◌+◌, ◌*◌, ◌≤◌, true, List, [], ◌∷◌, ◌++◌, Some, None, length, arith}
use Rattle.std.specs.Prelude.{nat_le, ◌&&◌, is_none, flat_map, sum_by}
use Rattle.std.specs.List.{list_all}
use Rattle.std.proofs.lemmas.Bool.{leb-true}
use Rattle.std.proofs.lemmas.List.Sums.{sum_by-cons}
use Rattle.fm_records.specs.declared.records.SpecReg.{SpecReg}
use Rattle.fm_records.specs.Ops.{op_fault}
use Rattle.fm_records.specs.Table.{TaskValue, MachineValue}
use Rattle.fm_records.specs.OpsOfTable.{spec_op, progress_op, job_ops, task_ops, machine_ops, entry_ops}
use Rattle.fm_records.specs.Ranges.{is_id, is_count, fits_row, fields_fit, in_range, all_in_range, CanBe}
use Rattle.fm_records.proofs.LookupLaws.{both_true}
use Rattle.fm_records.proofs.RangeLaws.{both_pass}
use Rattle.fm_delta.specs.declared.packet.Packet.{Packet}
use Rattle.fm_wire.specs.Grammar.{packet_size}
use Rattle.fm_wire.specs.inner.RecordSizes.{task_size, machine_size}
use Rattle.fm_wire.proofs.Sizes.{size_is, few_proposals, of_task, of_machine, without_spec, with_spec, without_parts, with_state, with_report, with_both}
use Rattle.fm_store.specs.inner.Halves.{longest}
use Rattle.fm_store.proofs.Halving.{each_of_four}

-- a task prefers four machines at most
few_preferred : (t : ℕ) (s : SpecReg) → in_range (spec_op t s) ≡ true → length s.prefer ≤ 4
few_preferred t s h =
    let whole = both_true (fields_fit (spec_op t s)) (is_none (op_fault (spec_op t s))) h in
    let row = both_true (is_id t && is_count s.version && is_id s.job) (fits_row s.prefer) whole.0 in
    let few = both_true (nat_le (length s.prefer) 4) (list_all (λ e. is_id e.0) s.prefer) row.1 in
    leb-true (length s.prefer) 4 few.0

task_small : (t : ℕ) (v : TaskValue) → all_in_range (task_ops (t, v)) ≡ true → task_size (t, v) ≤ 133
task_small t (None, p) h = omega (arith, of_task t (None, p), without_spec)
task_small t (Some s, p) h =
    let first = both_true (in_range (spec_op t s)) (all_in_range (progress_op t p ∷ [])) h in
    omega (arith, of_task t (Some s, p), with_spec s, few_preferred t s first.0)

tasks_small : (es : List (ℕ × TaskValue)) → all_in_range (flat_map task_ops es) ≡ true → sum_by task_size es ≤ 133 * length es
tasks_small [] h = omega arith
tasks_small (e ∷ es) h =
    let t = both_pass in_range (task_ops e) (flat_map task_ops es) h in
    omega (arith, sum_by-cons task_size e es, task_small e.0 e.1 t.0, tasks_small es t.1)

machine_small : (m : ℕ) (v : MachineValue) → machine_size (m, v) ≤ 55
machine_small m (i, (None, None)) = omega (arith, of_machine m (i, (None, None)), without_parts)
machine_small m (i, (Some s, None)) = omega (arith, of_machine m (i, (Some s, None)), with_state s)
machine_small m (i, (None, Some r)) = omega (arith, of_machine m (i, (None, Some r)), with_report r)
machine_small m (i, (Some s, Some r)) = omega (arith, of_machine m (i, (Some s, Some r)), with_both s r)

machines_small : (es : List (ℕ × MachineValue)) → sum_by machine_size es ≤ 55 * length es
machines_small [] = omega arith
machines_small (e ∷ es) = omega (arith, sum_by-cons machine_size e es, machine_small e.0 e.1, machines_small es)

sum_small : (j t m p tasks machines proposals size : ℕ) → 45 + 34 * j + tasks + machines + 45 * proposals ≡ size → tasks ≤ 133 * t → machines ≤ 55 * m → proposals ≤ 65 * p
    → j ≤ 1 → t ≤ 1 → m ≤ 1 → p ≤ 1 → size ≤ 4096
sum_small j t m p tasks machines proposals size is a b c one two three four = omega (arith, is, a, b, c, one, two, three, four)

pub one_of_each : (p : Packet) → CanBe p.value → longest p.value ≤ 1 → packet_size p ≤ 4096
one_of_each p is short =
    let k = p.value in
    let two = flat_map job_ops k.jobs ++ flat_map task_ops k.tasks in
    let a = both_pass in_range (two ++ flat_map machine_ops k.machines) (flat_map entry_ops k.proposals) is.in_range in
    let b = both_pass in_range two (flat_map machine_ops k.machines) a.0 in
    let c = both_pass in_range (flat_map job_ops k.jobs) (flat_map task_ops k.tasks) b.0 in
    let each = each_of_four (length k.jobs) (length k.tasks) (length k.machines) (length k.proposals) 1 short in
    sum_small (length k.jobs) (length k.tasks) (length k.machines) (length k.proposals) (sum_by task_size k.tasks) (sum_by machine_size k.machines) (sum_by (λ e. length e.1) k.proposals) (packet_size p)
    (size_is p.sender p.number k) (tasks_small k.tasks c.1) (machines_small k.machines) (few_proposals k is) each.0 each.1 each.2 each.3
