-- The test of equal knowledge decides equality.
use Rattle.std.specs.Prelude.{◌≡◌, ℕ, Bool, List, Option, Some, None, refl}
use Rattle.std.specs.Bool.{Decides}
use Rattle.std.specs.Cmp.{IsTotalOrder, IsPartialEquivalence, nat_cmp_total, Equal-is}
use Rattle.std.specs.Cmp.Lexicographic.{pointwise}
use Rattle.std.specs.Ordering.{nat_cmp, is_eq}
use Rattle.std.specs.declared.cmp.Ordering.{Ordering}
use Rattle.std.proofs.Common.{sym, ap, ◌∙◌}
use Rattle.std.proofs.lemmas.Bool.Decides.{Decides-and}
use Rattle.std.proofs.lemmas.Cmp.{tied_itself}
use Rattle.std.proofs.lemmas.Slice.Eq.{slice_eq-Decides}
use Rattle.fm_lattice.specs.Chains.{TellsApart}
use Rattle.fm_lattice.specs.laws.ChainLaws.{nat_same}
use Rattle.fm_records.specs.declared.records.JobReg.{JobReg}
use Rattle.fm_records.specs.declared.records.Spot.{Spot}
use Rattle.fm_records.specs.Orders.{job_cmp, spec_cmp, progress_cmp, machine_cmp, report_cmp, spot_cmp, attempt_cmp}
use Rattle.fm_records.specs.laws.OrderLaws.{total_job, same_job, total_spec, same_spec, total_progress, same_progress, total_machine, same_machine, total_report, same_report, total_spot, same_spot, total_attempt, same_attempt}
use Rattle.fm_records.specs.Table.{Table, TaskValue, MachineValue}
use Rattle.fm_records.specs.laws.RecordEqualityLaws.{apart, pair_Decides, equivalence}
use Rattle.fm_know.specs.KnowledgeEquality.{same_by, by_parts, by_value, same_jobs, same_tasks, same_machines, same_proposals, same_table}

-- That it is the equality of tables.

order_Decides : {A : Type 0} (cmp : A → A → Ordering) → IsTotalOrder cmp → TellsApart cmp → (a b : A) → Decides (same_by cmp a b) (a ≡ b)
order_Decides cmp total same a b = (λ h. same a b ((Equal-is (cmp a b)).0 h), λ e. ap (λ z. is_eq (cmp a z)) (sym e) ∙ ap is_eq (tied_itself total a))

value_Decides : {A : Type 0} (E : A → A → Bool) → ((a b : A) → Decides (E a b) (a ≡ b)) → (x y : Option A) → Decides (by_value E x y) (x ≡ y)
value_Decides E d None None = (λ _. refl, λ _. refl)
value_Decides E d None (Some b) = (λ h. apart h, λ e. absurd (cc))
value_Decides E d (Some a) None = (λ h. apart h, λ e. absurd (cc))
value_Decides E d (Some a) (Some b) = (λ h. ap Some ((d a b).0 h), λ e. (d a b).1 (let same : a ≡ b = cc in same))

nats : (a b : ℕ) → Decides (same_by nat_cmp a b) (a ≡ b)
nats = order_Decides nat_cmp nat_cmp_total nat_same

jobs_Decides : (x y : List (ℕ × JobReg)) → Decides (same_jobs x y) (x ≡ y)
jobs_Decides x y = slice_eq-Decides (pair_Decides (same_by nat_cmp) (same_by job_cmp) nats (order_Decides job_cmp total_job same_job)) x y _ refl

tasks_Decides : (x y : List (ℕ × TaskValue)) → Decides (same_tasks x y) (x ≡ y)
tasks_Decides x y =
    slice_eq-Decides
    (pair_Decides (same_by nat_cmp) (by_parts (by_value (same_by spec_cmp)) (same_by progress_cmp)) nats
    (pair_Decides (by_value (same_by spec_cmp)) (same_by progress_cmp) (value_Decides (same_by spec_cmp) (order_Decides spec_cmp total_spec same_spec)) (order_Decides progress_cmp total_progress same_progress)))
    x y _ refl

machines_Decides : (x y : List (ℕ × MachineValue)) → Decides (same_machines x y) (x ≡ y)
machines_Decides x y =
    slice_eq-Decides
    (pair_Decides (same_by nat_cmp) (by_parts (same_by nat_cmp) (by_parts (by_value (same_by machine_cmp)) (by_value (same_by report_cmp)))) nats
    (pair_Decides (same_by nat_cmp) (by_parts (by_value (same_by machine_cmp)) (by_value (same_by report_cmp))) nats
    (pair_Decides (by_value (same_by machine_cmp)) (by_value (same_by report_cmp)) (value_Decides (same_by machine_cmp) (order_Decides machine_cmp total_machine same_machine)) (value_Decides (same_by report_cmp) (order_Decides report_cmp total_report same_report)))))
    x y _ refl

spots_Decides : (x y : List (ℕ × Spot)) → Decides (pointwise (by_parts (same_by nat_cmp) (same_by spot_cmp)) x y) (x ≡ y)
spots_Decides x y = slice_eq-Decides (pair_Decides (same_by nat_cmp) (same_by spot_cmp) nats (order_Decides spot_cmp total_spot same_spot)) x y _ refl

proposals_Decides : (x y : List ((ℕ × ℕ) × List (ℕ × Spot))) → Decides (same_proposals x y) (x ≡ y)
proposals_Decides x y = slice_eq-Decides (pair_Decides (same_by attempt_cmp) (pointwise (by_parts (same_by nat_cmp) (same_by spot_cmp))) (order_Decides attempt_cmp total_attempt same_attempt) spots_Decides) x y _ refl

pub table_Decides : (k l : Table) → Decides (same_table k l) (k ≡ l)
table_Decides k l =
    let front = Decides-and _ _ (jobs_Decides k.jobs l.jobs) (tasks_Decides k.tasks l.tasks) in
    let back = Decides-and _ _ (machines_Decides k.machines l.machines) (proposals_Decides k.proposals l.proposals) in
    let all = Decides-and _ _ front back in (
      λ h. let p = all.0 h in λ i. record { jobs = p.0.0 i; tasks = p.0.1 i; machines = p.1.0 i; proposals = p.1.1 i },
      λ q. all.1 ((ap (λ t. t.jobs) q, ap (λ t. t.tasks) q), (ap (λ t. t.machines) q, ap (λ t. t.proposals) q)),
    )

pub table_equivalence : IsPartialEquivalence same_table
table_equivalence = equivalence same_table table_Decides
