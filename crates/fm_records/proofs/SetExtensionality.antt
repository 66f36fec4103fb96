-- Sets with the same members have one table.
use Rattle.std.specs.Prelude.{◌≡◌, ℕ, List, Option, option_map}
use Rattle.std.specs.List.{filter_map}
use Rattle.std.specs.Ordering.{nat_cmp}
use Rattle.std.specs.Cmp.{nat_cmp_total}
use Rattle.std.proofs.Common.{sym, ap, ◌∙◌}
use Rattle.fm_lattice.specs.laws.ChainLaws.{nat_same}
use Rattle.fm_lattice.specs.Joins.{max_join, min_join, Any, JoinLaws}
use Rattle.fm_lattice.specs.laws.PlainLaws.{max_laws, min_laws}
use Rattle.fm_lattice.specs.laws.MapLaws.{same_map}
use Rattle.fm_records.specs.declared.ops.Op.{Op}
use Rattle.fm_records.specs.Sets.{HaveSameMembers, all_of, table, unless_empty}
use Rattle.fm_records.specs.Orders.{job_cmp, spec_cmp, progress_cmp, machine_cmp, report_cmp, spot_cmp}
use Rattle.fm_records.specs.laws.OrderLaws.{total_job, same_job, total_spec, same_spec, total_progress, same_progress, total_machine, same_machine, total_report, same_report, total_spot, same_spot}
use Rattle.fm_records.specs.Know.{job_in, spec_in, progress_in, incarnation_in, state_in, report_in, spot_in, coordinator_named, task_value, task, machine, entry, table_of}
use Rattle.fm_records.proofs.SetLaws.{all_of_same, same_members_kept}
use Rattle.fm_records.proofs.TableLaws.{rising_table}
use Rattle.fm_records.proofs.LookupLaws.{lookup_entry}
use Rattle.fm_records.proofs.KnowLaws.{know_is, is_know}

module _ (S T : List Op) (same : HaveSameMembers S T) where
  one : {R : Type 0} (join : R → R → R) → JoinLaws Any join → (f : Op → Option R) → all_of join (filter_map f S) ≡ all_of join (filter_map f T)
  one join laws f = all_of_same join laws (filter_map f S) (filter_map f T) (same_members_kept f S T same)

  one_task : (t : ℕ) → task S t ≡ task T t
  one_task t =
      let a = one (max_join spec_cmp) (max_laws spec_cmp total_spec same_spec) (spec_in t) in
      let p = one (max_join progress_cmp) (max_laws progress_cmp total_progress same_progress) (progress_in t) in
      λ i. task_value (a i) (p i)

  one_machine : (m : ℕ) → machine S m ≡ machine T m
  one_machine m =
      let incarnations = one (max_join nat_cmp) (max_laws nat_cmp nat_cmp_total nat_same) (incarnation_in m) in
      let states = λ (n : ℕ). one (max_join machine_cmp) (max_laws machine_cmp total_machine same_machine) (state_in m n) in
      let reports = λ (n : ℕ). one (max_join report_cmp) (max_laws report_cmp total_report same_report) (report_in m n) in
      λ i. option_map (λ n. (n, (states n i, reports n i))) (incarnations i)

  one_table : (at : ℕ × ℕ) → table nat_cmp (filter_map coordinator_named S) (entry S at) ≡ table nat_cmp (filter_map coordinator_named T) (entry T at)
  one_table at =
      same_map nat_cmp nat_cmp_total nat_same _ _
      (rising_table nat_cmp nat_cmp_total nat_same (entry S at) (filter_map coordinator_named S))
      (rising_table nat_cmp nat_cmp_total nat_same (entry T at) (filter_map coordinator_named T))
      (λ c. lookup_entry S at c ∙ one (min_join spot_cmp) (min_laws spot_cmp total_spot same_spot) (spot_in at c) ∙ sym (lookup_entry T at c))

  pub know_same : table_of S ≡ table_of T
  know_same =
      let k = know_is S in
      is_know T (table_of S) (record {
        jobs_rise = k.jobs_rise;
        tasks_rise = k.tasks_rise;
        machines_rise = k.machines_rise;
        proposals_rise = k.proposals_rise;
        each_job = λ j. k.each_job j ∙ one (max_join job_cmp) (max_laws job_cmp total_job same_job) (job_in j);
        each_task = λ t. k.each_task t ∙ one_task t;
        each_machine = λ m. k.each_machine m ∙ one_machine m;
        each_attempt = λ at. k.each_attempt at ∙ ap unless_empty (one_table at);
      })
