-- The live tasks of each job, counted among those of a tally.
use Rattle.std.proofs.Common.{◌≡◌, ◌∙◌, ◌+◌, ℕ, Bool, cond, List, [], ◌∷◌, Option, Some, None, sym, ap, refl, zero-add, option_map}
use Rattle.std.specs.Prelude.{◌==◌, count_by}
use Rattle.std.specs.List.{cons_option}
use Rattle.std.specs.Ordering.{nat_cmp}
use Rattle.std.specs.Cmp.{nat_cmp_total}
use Rattle.std.proofs.lemmas.List.Sums.{sum_by-cons}
use Rattle.fm_lattice.specs.laws.ChainLaws.{nat_same}
use Rattle.fm_lattice.specs.laws.MapLaws.{same_map}
use Rattle.fm_lattice.specs.Maps.{lookup, IsRising}
use Rattle.fm_records.specs.declared.records.SpecReg.{SpecReg}
use Rattle.fm_records.specs.Options.{and_then, passes}
use Rattle.fm_records.specs.Table.{Table, TaskValue}
use Rattle.fm_records.specs.Facts.{job_of, live_spec}
use Rattle.fm_net.specs.Network.{is_live_of, live_tasks}
use Rattle.fm_net.proofs.NetworkLaws.{came_from, live_entry}
use Rattle.fm_tally.specs.declared.tally.LiveTask.{LiveTask}
use Rattle.fm_tally.specs.Tallies.{task_at}
use Rattle.fm_tally.proofs.Held.{live_job, entry_of}
use Rattle.fm_tally.proofs.Rows.{rows, rising_rows, lookup_rows}

-- the task is of the job
abbrev pub of_job : ℕ → ℕ × LiveTask → Bool
of_job j e = e.1.job == j

module _ (k : Table) where
  -- the tasks of a tally are those that are found of the table's
  pub tasks_are_rows : (all : List (ℕ × LiveTask)) → IsRising nat_cmp k.tasks → IsRising nat_cmp all → ((t : ℕ) → lookup nat_cmp t all ≡ task_at k t) → all ≡ rows (task_at k) k.tasks
  tasks_are_rows all rising sorted are =
      same_map nat_cmp nat_cmp_total nat_same all (rows (task_at k) k.tasks) sorted (rising_rows (task_at k) k.tasks rising)
      (λ q. are q ∙ sym (lookup_rows (task_at k) k.tasks q (λ (l : LiveTask) e.
      let s = came_from _ (live_spec k q) l e in
      let v = live_entry k q s.0 s.1 in
      (v.0, v.1))))

  module _ (j : ℕ) where
    one : (t : ℕ) (later : List (ℕ × LiveTask)) (o : Option SpecReg) → live_spec k t ≡ o
        → count_by (of_job j) (cons_option (option_map (λ (l : LiveTask). (t, l)) (and_then (λ (s : SpecReg). option_map (entry_of k t s) (job_of k s.job)) o)) later)
        ≡ cond (passes (λ (s : SpecReg). s.job == j) o) 1 0 + count_by (of_job j) later
    one t later None e = sym (zero-add _)
    one t later (Some s) e =
        let r = live_job k t s e in
        ap (λ o. count_by (of_job j) (cons_option (option_map (λ (l : LiveTask). (t, l)) (option_map (entry_of k t s) o)) later)) r.1
        ∙ sum_by-cons (λ (x : ℕ × LiveTask). cond (of_job j x) 1 0) (t, entry_of k t s r.0) later

    counts : (es : List (ℕ × TaskValue)) → count_by (of_job j) (rows (task_at k) es) ≡ count_by (λ (e : ℕ × TaskValue). is_live_of k j e.0) es
    counts [] = refl
    counts (e ∷ es) =
        one e.0 (rows (task_at k) es) (live_spec k e.0) refl
        ∙ ap (λ n. cond (is_live_of k j e.0) 1 0 + n) (counts es)
        ∙ sym (sum_by-cons (λ (x : ℕ × TaskValue). cond (is_live_of k j x.0) 1 0) e es)

  pub live_counted : (all : List (ℕ × LiveTask)) → all ≡ rows (task_at k) k.tasks → (j : ℕ) → count_by (of_job j) all ≡ live_tasks k j
  live_counted all are j = ap (count_by (of_job j)) are ∙ counts j k.tasks
