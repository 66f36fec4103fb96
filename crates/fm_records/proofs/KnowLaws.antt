-- The table of a set of operations is the one with rising keys in which each lookup gives what is told of the key.
use Rattle.std.specs.Prelude.{◌≡◌, List}
use Rattle.std.specs.List.{filter_map}
use Rattle.std.specs.Ordering.{nat_cmp}
use Rattle.std.specs.Cmp.{nat_cmp_total}
use Rattle.std.proofs.Common.{sym, ◌∙◌}
use Rattle.fm_lattice.specs.laws.ChainLaws.{nat_same}
use Rattle.fm_lattice.specs.laws.MapLaws.{same_map}
use Rattle.fm_records.specs.declared.ops.Op.{Op}
use Rattle.fm_records.specs.Orders.{attempt_cmp}
use Rattle.fm_records.specs.laws.OrderLaws.{total_attempt, same_attempt}
use Rattle.fm_records.specs.Table.{Table}
use Rattle.fm_records.specs.Know.{job_named, task_named, machine_named, attempt_named, job, task, machine, entries, table_of}
use Rattle.fm_records.specs.Characterized.{IsKnow}
use Rattle.fm_records.proofs.TableLaws.{rising_table}
use Rattle.fm_records.proofs.LookupLaws.{lookup_job, lookup_task, lookup_machine, lookup_entries}

pub know_is : (S : List Op) → IsKnow S (table_of S)
know_is S = record {
  jobs_rise = rising_table nat_cmp nat_cmp_total nat_same (job S) (filter_map job_named S);
  tasks_rise = rising_table nat_cmp nat_cmp_total nat_same (task S) (filter_map task_named S);
  machines_rise = rising_table nat_cmp nat_cmp_total nat_same (machine S) (filter_map machine_named S);
  proposals_rise = rising_table attempt_cmp total_attempt same_attempt (entries S) (filter_map attempt_named S);
  each_job = lookup_job S;
  each_task = lookup_task S;
  each_machine = lookup_machine S;
  each_attempt = lookup_entries S;
}

pub is_know : (S : List Op) (k : Table) → IsKnow S k → k ≡ table_of S
is_know S k p =
    let q = know_is S in
    let jobs = same_map nat_cmp nat_cmp_total nat_same k.jobs (table_of S).jobs p.jobs_rise q.jobs_rise (λ j. p.each_job j ∙ sym (q.each_job j)) in
    let tasks = same_map nat_cmp nat_cmp_total nat_same k.tasks (table_of S).tasks p.tasks_rise q.tasks_rise (λ t. p.each_task t ∙ sym (q.each_task t)) in
    let machines = same_map nat_cmp nat_cmp_total nat_same k.machines (table_of S).machines p.machines_rise q.machines_rise (λ m. p.each_machine m ∙ sym (q.each_machine m)) in
    let proposals = same_map attempt_cmp total_attempt same_attempt k.proposals (table_of S).proposals p.proposals_rise q.proposals_rise (λ at. p.each_attempt at ∙ sym (q.each_attempt at)) in
    λ i. record { jobs = jobs i; tasks = tasks i; machines = machines i; proposals = proposals i }
