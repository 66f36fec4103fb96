-- The table of two sets together is the join of their tables.
use Rattle.std.specs.Prelude.{◌≡◌, ℕ, false, ◌==◌, ◌&&◌, List, [], ◌∷◌, ◌++◌, Option, Some, None, option_map, refl}
use Rattle.std.specs.List.{filter_map}
use Rattle.std.specs.Ordering.{nat_cmp, is_lt, ordering_then}
use Rattle.std.specs.Cmp.{nat_cmp_total}
use Rattle.std.specs.declared.cmp.Ordering.TheVariants.{Less, Equal}
use Rattle.std.proofs.Common.{sym, ap, ◌∙◌, subst, arith}
use Rattle.std.proofs.lemmas.Bool.Decides.{nat_tests}
use Rattle.std.proofs.lemmas.Cmp.{tied_itself}
use Rattle.std.proofs.lemmas.List.Elements.{filter_map-append}
use Rattle.std.proofs.lemmas.Bool.{eqb-true}
use Rattle.fm_lattice.specs.Chains.{by_order}
use Rattle.fm_lattice.specs.laws.ChainLaws.{nat_same, by_cases, less_greater, greater_less}
use Rattle.fm_lattice.specs.Joins.{max_join, min_join, option_join, Any, JoinLaws}
use Rattle.fm_lattice.specs.laws.PlainLaws.{max_laws, min_laws, max_comm}
use Rattle.fm_lattice.specs.Maps.{lookup, IsRising, put, map_join}
use Rattle.fm_lattice.specs.laws.MapLaws.{same_map, rising_join, lookup_join}
use Rattle.fm_records.specs.declared.ops.Op.{Op}
use Rattle.fm_records.specs.declared.ops.Phase.{Phase}
use Rattle.fm_records.specs.declared.ops.Phase.TheVariants.{Pending, Running, Done}
use Rattle.fm_records.specs.declared.ops.Op.TheVariants as op
use Rattle.fm_records.specs.declared.records.SpecReg.{SpecReg}
use Rattle.fm_records.specs.declared.records.Progress.{Progress}
use Rattle.fm_records.specs.declared.records.MachineReg.{MachineReg}
use Rattle.fm_records.specs.declared.records.Report.{Report}
use Rattle.fm_records.specs.declared.records.Spot.{Spot}
use Rattle.fm_records.specs.Sets.{all_of, table, unless_empty}
use Rattle.fm_records.specs.Orders.{phase_cmp, job_cmp, spec_cmp, progress_cmp, machine_cmp, report_cmp, spot_cmp, attempt_cmp}
use Rattle.fm_records.specs.laws.OrderLaws.{total_job, same_job, total_spec, same_spec, total_progress, same_progress, total_machine, same_machine, total_report, same_report, total_spot, same_spot, total_attempt, same_attempt}
use Rattle.fm_records.specs.Table.{MachineValue}
use Rattle.fm_records.specs.Know.{initial_progress, job_in, spec_in, progress_in, incarnation_in, state_in, report_in, spot_in, coordinator_named, job, spec, greatest_progress, incarnation, state_at, report_at, task_value, task, machine_at, machine, entry, entries, table_of}
use Rattle.fm_records.specs.Joined.{task_join, parts_join, machine_join, table_join}
use Rattle.fm_records.proofs.SetLaws.{all_of-append, absorbs}
use Rattle.fm_records.proofs.TableLaws.{some_none, rising_table}
use Rattle.fm_records.proofs.LookupLaws.{lookup_entry, names_member, none_some, when_is_true, both_true}
use Rattle.fm_records.proofs.KnowLaws.{know_is, is_know}

-- nothing is below (0, Pending)
none_below : (n : ℕ) → nat_cmp n 0 ≡ Less → ⊥
none_below n e = grind (arith, nat_tests)

not_below_pending : (p : Phase) → is_lt (phase_cmp p Pending) ≡ false
not_below_pending Pending = refl
not_below_pending Running = refl
not_below_pending Done = refl

begun_least : (x : Progress) → is_lt (progress_cmp x initial_progress) ≡ false
begun_least x =
    by_cases (nat_cmp x.attempt 0) (λ o. is_lt (ordering_then o (phase_cmp x.phase Pending)) ≡ false)
    (λ e. absurd (none_below x.attempt e)) (λ _. not_below_pending x.phase) (λ _. refl)

begun_max : (x : Progress) → max_join progress_cmp initial_progress x ≡ x
begun_max x = rw (begun_least x) refl

max_begun : (x : Progress) → max_join progress_cmp x initial_progress ≡ x
max_begun x = max_comm progress_cmp total_progress same_progress x initial_progress ∙ begun_max x

abbrev specs_join : Option SpecReg → Option SpecReg → Option SpecReg
specs_join = option_join (max_join spec_cmp)

abbrev told_join : Option Progress → Option Progress → Option Progress
told_join = option_join (max_join progress_cmp)

task_both : (a b : Option SpecReg) (p q : Option Progress) → task_value (specs_join a b) (told_join p q) ≡ option_join task_join (task_value a p) (task_value b q)
task_both None None None q = refl
task_both None None (Some p) None = refl
task_both None None (Some p) (Some q) = refl
task_both (Some a) None None None = refl
task_both (Some a) None (Some p) None = refl
task_both (Some a) None None (Some q) = let e = begun_max q in λ i. Some (Some a, sym e i)
task_both (Some a) None (Some p) (Some q) = refl
task_both None (Some b) None q = refl
task_both None (Some b) (Some p) None = let e = max_begun p in λ i. Some (Some b, sym e i)
task_both None (Some b) (Some p) (Some q) = refl
task_both (Some a) (Some b) None None = let e = begun_max initial_progress in λ i. Some (Some (max_join spec_cmp a b), sym e i)
task_both (Some a) (Some b) None (Some q) = let e = begun_max q in λ i. Some (Some (max_join spec_cmp a b), sym e i)
task_both (Some a) (Some b) (Some p) None = let e = max_begun p in λ i. Some (Some (max_join spec_cmp a b), sym e i)
task_both (Some a) (Some b) (Some p) (Some q) = refl

state_says : (m n : ℕ) (o : Op) (v : MachineReg) → state_in m n o ≡ Some v → incarnation_in m o ≡ Some n
state_says m n (op.Machine id incarnation version writer up slots nic) v e =
    let both = both_true (id == m) (incarnation == n) (when_is_true (id == m && incarnation == n) _ v e) in
    let there = eqb-true incarnation n both.1 in
    rw both.0 (ap Some there)
state_says m n _ v e = none_some v e

report_says : (m n : ℕ) (o : Op) (v : Report) → report_in m n o ≡ Some v → incarnation_in m o ≡ Some n
report_says m n (op.Report id incarnation number used) v e =
    let both = both_true (id == m) (incarnation == n) (when_is_true (id == m && incarnation == n) _ v e) in
    let there = eqb-true incarnation n both.1 in
    rw both.0 (ap Some there)
report_says m n _ v e = none_some v e

abbrev greater : Option ℕ → Option ℕ → Option ℕ
greater = option_join (max_join nat_cmp)

module _ (S : List Op) (m n : ℕ) where
  -- nothing is told at an incarnation above the greatest
  above : {R : Type 0} (join : R → R → R) (f : Op → Option R) → ((o : Op) (v : R) → f o ≡ Some v → incarnation_in m o ≡ Some n) → (greater (Some n) (incarnation S m) ≡ incarnation S m → ⊥) → all_of join (filter_map f S) ≡ None
  above join f says missing =
      elim (all_of join (filter_map f S)) as (λ o. all_of join (filter_map f S) ≡ o → o ≡ None) [
        | None ↦ λ _. refl
        | Some v ↦ λ e. absurd (missing (absorbs (max_join nat_cmp) (max_laws nat_cmp nat_cmp_total nat_same) n (filter_map (incarnation_in m) S) (names_member f (incarnation_in m) join n says S v e)))
      ] refl

  no_state : (greater (Some n) (incarnation S m) ≡ incarnation S m → ⊥) → state_at S m n ≡ None
  no_state = above (max_join machine_cmp) (state_in m n) (state_says m n)

  no_report : (greater (Some n) (incarnation S m) ≡ incarnation S m → ⊥) → report_at S m n ≡ None
  no_report = above (max_join report_cmp) (report_in m n) (report_says m n)

inside : (a b : ℕ) → Some a ≡ Some b → a ≡ b
inside a b e = cc

-- the greater of a number and a lesser is not the lesser
not_absorbed : (S : List Op) (m i j : ℕ) → incarnation S m ≡ Some i → nat_cmp i j ≡ Less → greater (Some j) (incarnation S m) ≡ incarnation S m → ⊥
not_absorbed S m i j is e h =
    let at : greater (Some j) (Some i) ≡ Some i = subst (λ z. greater (Some j) z ≡ z) is h in
    let tied : j ≡ i = inside j i (sym (rw e refl) ∙ at) in
    let wrong : Less ≡ Equal = sym e ∙ ap (nat_cmp i) tied ∙ tied_itself nat_cmp_total i in
    absurd (let n : ⊥ = cc in n)

not_none : (S : List Op) (m j : ℕ) → incarnation S m ≡ None → greater (Some j) (incarnation S m) ≡ incarnation S m → ⊥
not_none S m j is h = some_none j (subst (λ z. greater (Some j) z ≡ z) is h)

none_after : {R : Type 0} (join : R → R → R) (o : Option R) → option_join join o None ≡ o
none_after join None = refl
none_after join (Some v) = refl

module _ (S T : List Op) where
  one : {R : Type 0} (join : R → R → R) → JoinLaws Any join → (f : Op → Option R) → all_of join (filter_map f (S ++ T)) ≡ option_join join (all_of join (filter_map f S)) (all_of join (filter_map f T))
  one join laws f = ap (all_of join) (filter_map-append f S T) ∙ all_of-append join laws (filter_map f S) (filter_map f T)

  job_both : (j : ℕ) → job (S ++ T) j ≡ option_join (max_join job_cmp) (job S j) (job T j)
  job_both j = one (max_join job_cmp) (max_laws job_cmp total_job same_job) (job_in j)

  task_together : (t : ℕ) → task (S ++ T) t ≡ option_join task_join (task S t) (task T t)
  task_together t =
      let a = one (max_join spec_cmp) (max_laws spec_cmp total_spec same_spec) (spec_in t) in
      let p = one (max_join progress_cmp) (max_laws progress_cmp total_progress same_progress) (progress_in t) in
      ap (λ z. task_value z (greatest_progress (S ++ T) t)) a ∙ ap (task_value (specs_join (spec S t) (spec T t))) p ∙ task_both (spec S t) (spec T t) (greatest_progress S t) (greatest_progress T t)

  states : (m n : ℕ) → state_at (S ++ T) m n ≡ option_join (max_join machine_cmp) (state_at S m n) (state_at T m n)
  states m n = one (max_join machine_cmp) (max_laws machine_cmp total_machine same_machine) (state_in m n)

  reports : (m n : ℕ) → report_at (S ++ T) m n ≡ option_join (max_join report_cmp) (report_at S m n) (report_at T m n)
  reports m n = one (max_join report_cmp) (max_laws report_cmp total_report same_report) (report_in m n)

  -- if the second has told nothing at the incarnation, and if the first has not
  first_alone : (m n : ℕ) → (greater (Some n) (incarnation T m) ≡ incarnation T m → ⊥) → machine_at (S ++ T) m n ≡ machine_at S m n
  first_alone m n missing =
      let a = states m n ∙ ap (option_join (max_join machine_cmp) (state_at S m n)) (no_state T m n missing) ∙ none_after (max_join machine_cmp) (state_at S m n) in
      let b = reports m n ∙ ap (option_join (max_join report_cmp) (report_at S m n)) (no_report T m n missing) ∙ none_after (max_join report_cmp) (report_at S m n) in
      λ i. (n, (a i, b i))

  second_alone : (m n : ℕ) → (greater (Some n) (incarnation S m) ≡ incarnation S m → ⊥) → machine_at (S ++ T) m n ≡ machine_at T m n
  second_alone m n missing =
      let a = states m n ∙ ap (λ z. option_join (max_join machine_cmp) z (state_at T m n)) (no_state S m n missing) in
      let b = reports m n ∙ ap (λ z. option_join (max_join report_cmp) z (report_at T m n)) (no_report S m n missing) in
      λ i. (n, (a i, b i))

  machine_both : (m : ℕ) (x y : Option ℕ) → incarnation S m ≡ x → incarnation T m ≡ y →
      option_map (machine_at (S ++ T) m) (greater x y)
      ≡ option_join machine_join (option_map (machine_at S m) x) (option_map (machine_at T m) y)
  machine_both m None None e f = refl
  machine_both m None (Some j) e f = ap Some (second_alone m j (not_none S m j e))
  machine_both m (Some i) None e f = ap Some (first_alone m i (not_none T m i f))
  machine_both m (Some i) (Some j) e f =
      by_cases (nat_cmp i j) (λ o. nat_cmp i j ≡ o → Some (machine_at (S ++ T) m (max_join nat_cmp i j)) ≡ Some (by_order o (machine_at T m j) (i, parts_join (machine_at S m i).1 (machine_at T m j).1) (machine_at S m i)))
      (λ _ l. let back = less_greater nat_cmp nat_cmp_total i j l in rw back (ap Some (second_alone m j (not_absorbed S m i j e l))))
      (λ _ t.
      let is : j ≡ i = sym (nat_same i j t) in
      let a = states m i in
      let b = reports m i in
      subst (λ z. Some (machine_at (S ++ T) m (max_join nat_cmp i z)) ≡ Some (let v : MachineValue = (i, parts_join (machine_at S m i).1 (machine_at T m z).1) in v)) (sym is)
      (rw (tied_itself nat_cmp_total i) (λ k. Some (i, (a k, b k)))))
      (λ _ g. let back = greater_less nat_cmp nat_cmp_total i j g in rw back (ap Some (first_alone m i (not_absorbed T m j i f back))))
      refl

  machine_together : (m : ℕ) → machine (S ++ T) m ≡ option_join machine_join (machine S m) (machine T m)
  machine_together m =
      ap (option_map (machine_at (S ++ T) m)) (one (max_join nat_cmp) (max_laws nat_cmp nat_cmp_total nat_same) (incarnation_in m))
      ∙ machine_both m (incarnation S m) (incarnation T m) refl refl

abbrev spots_join : List (ℕ × Spot) → List (ℕ × Spot) → List (ℕ × Spot)
spots_join = map_join nat_cmp (min_join spot_cmp)

full_put : (c : ℕ) (s : Spot) (es : List (ℕ × Spot)) → unless_empty (put nat_cmp (min_join spot_cmp) c s es) ≡ Some (put nat_cmp (min_join spot_cmp) c s es)
full_put c s [] = refl
full_put c s (x ∷ es) = by_cases (nat_cmp c x.0) (λ o. let l : List (ℕ × Spot) = by_order o ((c, s) ∷ x ∷ es) ((x.0, min_join spot_cmp x.1 s) ∷ es) (x ∷ put nat_cmp (min_join spot_cmp) c s es) in unless_empty l ≡ Some l) (λ _. refl) (λ _. refl) (λ _. refl)

full_join : (a b : List (ℕ × Spot)) → unless_empty a ≡ Some a → unless_empty (spots_join a b) ≡ Some (spots_join a b)
full_join a [] h = h
full_join a (e ∷ es) h = full_join (put nat_cmp (min_join spot_cmp) e.0 e.1 a) es (full_put e.0 e.1 a)

from_none : (b : List (ℕ × Spot)) → IsRising nat_cmp b → spots_join [] b ≡ b
from_none b r = same_map nat_cmp nat_cmp_total nat_same (spots_join [] b) b (rising_join nat_cmp nat_cmp_total nat_same (min_join spot_cmp) [] b tt) r (λ q. lookup_join nat_cmp nat_cmp_total nat_same (min_join spot_cmp) q [] b tt r)

full_both : (a b : List (ℕ × Spot)) → IsRising nat_cmp b → unless_empty (spots_join a b) ≡ option_join spots_join (unless_empty a) (unless_empty b)
full_both [] b r = ap unless_empty (from_none b r)
full_both (x ∷ xs) [] r = refl
full_both (x ∷ xs) (y ∷ ys) r = full_join (x ∷ xs) (y ∷ ys) refl

module _ (S T : List Op) (at : ℕ × ℕ) where
  abbrev spots : List Op → List (ℕ × Spot)
  spots U = table nat_cmp (filter_map coordinator_named U) (entry U at)

  spots_rise : (U : List Op) → IsRising nat_cmp (spots U)
  spots_rise U = rising_table nat_cmp nat_cmp_total nat_same (entry U at) (filter_map coordinator_named U)

  spots_together : spots (S ++ T) ≡ spots_join (spots S) (spots T)
  spots_together =
      same_map nat_cmp nat_cmp_total nat_same (spots (S ++ T)) (spots_join (spots S) (spots T)) (spots_rise (S ++ T)) (rising_join nat_cmp nat_cmp_total nat_same (min_join spot_cmp) (spots S) (spots T) (spots_rise S))
      (λ c.
      let there = lookup_join nat_cmp nat_cmp_total nat_same (min_join spot_cmp) c (spots S) (spots T) (spots_rise S) (spots_rise T) in
      lookup_entry (S ++ T) at c
      ∙ one S T (min_join spot_cmp) (min_laws spot_cmp total_spot same_spot) (spot_in at c)
      ∙ ap (λ z. option_join (min_join spot_cmp) z (entry T at c)) (sym (lookup_entry S at c))
      ∙ ap (option_join (min_join spot_cmp) (lookup nat_cmp c (spots S))) (sym (lookup_entry T at c))
      ∙ sym there)

  entries_together : entries (S ++ T) at ≡ option_join spots_join (entries S at) (entries T at)
  entries_together = ap unless_empty spots_together ∙ full_both (spots S) (spots T) (spots_rise T)

-- a lookup in the join of two maps, by what is found in each
found : {V : Type 0} (join : V → V → V) (x y a b : Option V) → x ≡ a → y ≡ b → option_join join x y ≡ option_join join a b
found join x y a b e f = ap (λ z. option_join join z y) e ∙ ap (option_join join a) f

pub know_append : (S T : List Op) → table_of (S ++ T) ≡ table_join (table_of S) (table_of T)
know_append S T =
    let k = know_is S in
    let l = know_is T in
    sym (is_know (S ++ T) (table_join (table_of S) (table_of T)) (record {
      jobs_rise = rising_join nat_cmp nat_cmp_total nat_same (max_join job_cmp) (table_of S).jobs (table_of T).jobs k.jobs_rise;
      tasks_rise = rising_join nat_cmp nat_cmp_total nat_same task_join (table_of S).tasks (table_of T).tasks k.tasks_rise;
      machines_rise = rising_join nat_cmp nat_cmp_total nat_same machine_join (table_of S).machines (table_of T).machines k.machines_rise;
      proposals_rise = rising_join attempt_cmp total_attempt same_attempt spots_join (table_of S).proposals (table_of T).proposals k.proposals_rise;
      each_job = λ j. lookup_join nat_cmp nat_cmp_total nat_same (max_join job_cmp) j (table_of S).jobs (table_of T).jobs k.jobs_rise l.jobs_rise
          ∙ found (max_join job_cmp) _ _ _ _ (k.each_job j) (l.each_job j) ∙ sym (job_both S T j);
      each_task = λ t. lookup_join nat_cmp nat_cmp_total nat_same task_join t (table_of S).tasks (table_of T).tasks k.tasks_rise l.tasks_rise
          ∙ found task_join _ _ _ _ (k.each_task t) (l.each_task t) ∙ sym (task_together S T t);
      each_machine = λ m. lookup_join nat_cmp nat_cmp_total nat_same machine_join m (table_of S).machines (table_of T).machines k.machines_rise l.machines_rise
          ∙ found machine_join _ _ _ _ (k.each_machine m) (l.each_machine m) ∙ sym (machine_together S T m);
      each_attempt = λ at. lookup_join attempt_cmp total_attempt same_attempt spots_join at (table_of S).proposals (table_of T).proposals k.proposals_rise l.proposals_rise
          ∙ found spots_join _ _ _ _ (k.each_attempt at) (l.each_attempt at) ∙ sym (entries_together S T at);
    }))
