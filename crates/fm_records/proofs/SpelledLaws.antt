-- The operations that a table is written out as have that table.
use Rattle.std.specs.Prelude.{◌≡◌, ℕ, Bool, true, false, cond, ◌==◌, ◌&&◌, List, [], ◌∷◌, ◌++◌, Option, Some, None, option_map, flat_map, refl}
use Rattle.std.specs.List.{filter_map, cons_option}
use Rattle.std.specs.Ordering.{nat_cmp, is_eq, ordering_then}
use Rattle.std.specs.Cmp.{IsTotalOrder, nat_cmp_total}
use Rattle.std.specs.declared.cmp.Ordering.{Ordering}
use Rattle.std.specs.declared.cmp.Ordering.TheVariants.{Less, Equal, Greater}
use Rattle.std.proofs.Common.{sym, ap, ◌∙◌, subst, arith, eq-eqb}
use Rattle.std.proofs.lemmas.Bool.Decides.{nat_tests}
use Rattle.std.proofs.lemmas.List.Elements.{filter_map-append}
use Rattle.fm_lattice.specs.Chains.{TellsApart}
use Rattle.fm_lattice.specs.laws.ChainLaws.{nat_same, by_cases}
use Rattle.fm_lattice.specs.Joins.{max_join, min_join, Any, IsOptionOf}
use Rattle.fm_lattice.specs.laws.PlainLaws.{max_idem}
use Rattle.fm_lattice.specs.Maps.{lookup, IsRising, AreValues}
use Rattle.fm_lattice.specs.laws.MapLaws.{lookup_below, lookup_value, same_map}
use Rattle.fm_records.specs.declared.ops.Op.{Op}
use Rattle.fm_records.specs.declared.records.JobReg.{JobReg}
use Rattle.fm_records.specs.declared.records.SpecReg.{SpecReg}
use Rattle.fm_records.specs.declared.records.Progress.{Progress}
use Rattle.fm_records.specs.declared.records.MachineReg.{MachineReg}
use Rattle.fm_records.specs.declared.records.Report.{Report}
use Rattle.fm_records.specs.declared.records.Spot.{Spot}
use Rattle.fm_records.specs.Sets.{all_of, unless_empty}
use Rattle.fm_records.specs.laws.OrderLaws.{total_attempt, same_attempt}
use Rattle.fm_records.proofs.TableLaws.{rising_table}
use Rattle.fm_records.proofs.LookupLaws.{lookup_entry}
use Rattle.fm_records.proofs.KnowLaws.{is_know}
use Rattle.fm_records.specs.Orders.{job_cmp, spec_cmp, progress_cmp, machine_cmp, report_cmp, spot_cmp, attempt_cmp}
use Rattle.fm_records.specs.Table.{Table, TaskValue, MachineValue}
use Rattle.fm_records.specs.Know.{when, job_in, spec_in, progress_in, incarnation_in, state_in, report_in, spot_in, coordinator_named, entry, entries, job, task, task_value, machine, table_of}
use Rattle.fm_records.specs.OpsOfTable.{each, job_op, job_ops, spec_op, progress_op, machine_op, report_op, propose_op, task_ops, machine_ops, entry_ops, ops, has_part, IsFull, IsTable}

equal_tests : (a b : ℕ) → (a == b) ≡ is_eq (nat_cmp b a)
equal_tests a b = grind (arith, nat_tests)

append_none : {R : Type 0} (xs : List R) → xs ++ [] ≡ xs
append_none [] = refl
append_none (x ∷ xs) = ap (λ z. x ∷ z) (append_none xs)

-- what is picked from the value that was found
abbrev found_in : {V R : Type 0} → (V → List R) → Option V → List R
found_in pick None = []
found_in pick (Some v) = pick v

module _ {K V R : Type 0} (cmp : K → K → Ordering) (g : K × V → List Op) (f : Op → Option R) (q : K) (pick : V → List R) (P : V → Type 0) (says : (e : K × V) → P e.1 → filter_map f (g e) ≡ cond (is_eq (cmp q e.0)) (pick e.1) []) (total : IsTotalOrder cmp) (same : TellsApart cmp) where
  pub picked : (es : List (K × V)) → IsRising cmp es → AreValues P es → filter_map f (flat_map g es) ≡ found_in pick (lookup cmp q es)
  picked [] r v = refl
  picked (e ∷ es) r v =
      filter_map-append f (g e) (flat_map g es)
      ∙ ap (λ z. z ++ filter_map f (flat_map g es)) (says e v.0)
      ∙ ap (λ z. cond (is_eq (cmp q e.0)) (pick e.1) [] ++ z) (picked es r.1 v.1)
      ∙ by_cases (cmp q e.0) (λ o. cond (is_eq o) (pick e.1) [] ++ found_in pick (lookup cmp q es) ≡ found_in pick (cond (is_eq o) (Some e.1) (lookup cmp q es)))
      (λ _. refl)
      (λ t.
      let is : e.0 ≡ q = sym (same q e.0 t) in
      let none : lookup cmp q es ≡ None = subst (λ z. lookup cmp z es ≡ None) is (lookup_below cmp total same e.0 es r.0) in
      ap (λ z. pick e.1 ++ found_in pick z) none ∙ append_none (pick e.1))
      (λ _. refl)

module _ {K V R : Type 0} (g : K × V → List Op) (f : Op → Option R) (says : (e : K × V) → filter_map f (g e) ≡ []) where
  pub nothing : (es : List (K × V)) → filter_map f (flat_map g es) ≡ []
  nothing [] = refl
  nothing (e ∷ es) = filter_map-append f (g e) (flat_map g es) ∙ ap (λ z. z ++ filter_map f (flat_map g es)) (says e) ∙ nothing es

no_entry : {R : Type 0} (f : Op → Option R) → ((at : ℕ × ℕ) (c : ℕ) (s : Spot) → filter_map f (entry_ops (at, (c, s) ∷ [])) ≡ []) → (at : ℕ × ℕ) (es : List (ℕ × Spot)) → filter_map f (entry_ops (at, es)) ≡ []
no_entry f none at [] = refl
no_entry f none at (e ∷ es) = filter_map-append f (entry_ops (at, e ∷ [])) (entry_ops (at, es)) ∙ ap (λ z. z ++ filter_map f (entry_ops (at, es))) (none at e.0 e.1) ∙ no_entry f none at es

-- the four parts of what spells a table out
parts : {R : Type 0} (f : Op → Option R) (k : Table) (a b c d : List R) →
    filter_map f (flat_map job_ops k.jobs) ≡ a → filter_map f (flat_map task_ops k.tasks) ≡ b → filter_map f (flat_map machine_ops k.machines) ≡ c → filter_map f (flat_map entry_ops k.proposals) ≡ d →
    filter_map f (ops k) ≡ ((a ++ b) ++ c) ++ d
parts f k a b c d p q r s =
    let jobs : List Op = flat_map job_ops k.jobs in
    let tasks : List Op = flat_map task_ops k.tasks in
    let machines : List Op = flat_map machine_ops k.machines in
    let proposals : List Op = flat_map entry_ops k.proposals in
    let x = filter_map-append f jobs tasks in
    let y = filter_map-append f (jobs ++ tasks) machines in
    let z = filter_map-append f ((jobs ++ tasks) ++ machines) proposals in
    z ∙ ap (λ w. w ++ filter_map f proposals) (y ∙ ap (λ w. w ++ filter_map f machines) x) ∙ (λ i. ((p i ++ q i) ++ r i) ++ s i)

abbrev only : {A : Type 0} → A → List A
only a = a ∷ []

abbrev listed : {A : Type 0} → Option A → List A
listed None = []
listed (Some a) = a ∷ []

no_job : {R : Type 0} (f : Op → Option R) → ((j : ℕ) (r : JobReg) → f (job_op j r) ≡ None) → (es : List (ℕ × JobReg)) → filter_map f (flat_map job_ops es) ≡ []
no_job f none = nothing job_ops f (λ e. ap (λ o. cons_option o []) (none e.0 e.1))

no_task : {R : Type 0} (f : Op → Option R) → ((t : ℕ) (r : SpecReg) → f (spec_op t r) ≡ None) → ((t : ℕ) (p : Progress) → f (progress_op t p) ≡ None) → (es : List (ℕ × TaskValue)) → filter_map f (flat_map task_ops es) ≡ []
no_task f a b = nothing task_ops f (λ e. elim e.1.0 as (λ o. filter_map f (task_ops (e.0, (o, e.1.1))) ≡ []) [
  | None ↦ ap (λ o. cons_option o []) (b e.0 e.1.1)
  | Some s ↦ λ i. cons_option (a e.0 s i) (cons_option (b e.0 e.1.1 i) [])
])

no_machine : {R : Type 0} (f : Op → Option R) → ((m n : ℕ) (r : MachineReg) → f (machine_op m n r) ≡ None) → ((m n : ℕ) (r : Report) → f (report_op m n r) ≡ None) → (es : List (ℕ × MachineValue)) → filter_map f (flat_map machine_ops es) ≡ []
no_machine f a b = nothing machine_ops f (λ e. elim e.1.1.0 as (λ o. filter_map f (machine_ops (e.0, (e.1.0, (o, e.1.1.1)))) ≡ []) [
  | None ↦ elim e.1.1.1 as (λ p. filter_map f (machine_ops (e.0, (e.1.0, (None, p)))) ≡ []) [ None ↦ refl | Some r ↦ λ i. cons_option (b e.0 e.1.0 r i) [] ]
  | Some s ↦ elim e.1.1.1 as (λ p. filter_map f (machine_ops (e.0, (e.1.0, (Some s, p)))) ≡ []) [ None ↦ λ i. cons_option (a e.0 e.1.0 s i) [] | Some r ↦ λ i. cons_option (a e.0 e.1.0 s i) (cons_option (b e.0 e.1.0 r i) []) ]
])

no_proposal : {R : Type 0} (f : Op → Option R) → ((at : ℕ × ℕ) (c : ℕ) (s : Spot) → f (propose_op at c s) ≡ None) → (es : List ((ℕ × ℕ) × List (ℕ × Spot))) → filter_map f (flat_map entry_ops es) ≡ []
no_proposal f none = nothing entry_ops f (λ e. no_entry f (λ at c s. ap (λ o. cons_option o []) (none at c s)) e.0 e.1)

empty_if : {R : Type 0} (b : Bool) → [] ≡ cond b (let l : List R = [] in l) []
empty_if true = refl
empty_if false = refl

job_picks : (j : ℕ) (e : ℕ × JobReg) → Any e.1 → filter_map (job_in j) (job_op e.0 e.1 ∷ []) ≡ cond (is_eq (nat_cmp j e.0)) (only e.1) []
job_picks j e _ = rw (equal_tests e.0 j) (elim (is_eq (nat_cmp j e.0)) as (λ b. cons_option (when b e.1) [] ≡ cond b (only e.1) []) [ true ↦ refl | false ↦ refl ])

spec_picks : (t : ℕ) (e : ℕ × TaskValue) → Any e.1 → filter_map (spec_in t) (task_ops e) ≡ cond (is_eq (nat_cmp t e.0)) (listed e.1.0) []
spec_picks t (q, (None, p)) _ = empty_if (is_eq (nat_cmp t q))
spec_picks t (q, (Some s, p)) _ = rw (equal_tests q t) (elim (is_eq (nat_cmp t q)) as (λ b. cons_option (when b s) [] ≡ cond b (s ∷ []) []) [ true ↦ refl | false ↦ refl ])

progress_picks : (t : ℕ) (e : ℕ × TaskValue) → Any e.1 → filter_map (progress_in t) (task_ops e) ≡ cond (is_eq (nat_cmp t e.0)) (only e.1.1) []
progress_picks t (q, (None, p)) _ = rw (equal_tests q t) (elim (is_eq (nat_cmp t q)) as (λ b. cons_option (when b p) [] ≡ cond b (p ∷ []) []) [ true ↦ refl | false ↦ refl ])
progress_picks t (q, (Some s, p)) _ = rw (equal_tests q t) (elim (is_eq (nat_cmp t q)) as (λ b. cons_option (when b p) [] ≡ cond b (p ∷ []) []) [ true ↦ refl | false ↦ refl ])

abbrev incarnations : MachineValue → List ℕ
incarnations v = each (λ _. v.0) v.1.0 ++ each (λ _. v.0) v.1.1

incarnation_picks : (m : ℕ) (e : ℕ × MachineValue) → has_part e.1 → filter_map (incarnation_in m) (machine_ops e) ≡ cond (is_eq (nat_cmp m e.0)) (incarnations e.1) []
incarnation_picks m (q, (n, (None, None))) h = absurd h
incarnation_picks m (q, (n, (None, Some r))) h = rw (equal_tests q m) (elim (is_eq (nat_cmp m q)) as (λ b. cons_option (when b n) [] ≡ cond b (n ∷ []) []) [ true ↦ refl | false ↦ refl ])
incarnation_picks m (q, (n, (Some s, None))) h = rw (equal_tests q m) (elim (is_eq (nat_cmp m q)) as (λ b. cons_option (when b n) [] ≡ cond b (n ∷ []) []) [ true ↦ refl | false ↦ refl ])
incarnation_picks m (q, (n, (Some s, Some r))) h = rw (equal_tests q m) (elim (is_eq (nat_cmp m q)) as (λ b. cons_option (when b n) (cons_option (when b n) []) ≡ cond b (n ∷ n ∷ []) []) [ true ↦ refl | false ↦ refl ])

kept_if : {R : Type 0} (b c : Bool) (r : R) → cons_option (when (b && c) r) [] ≡ cond b (cond c (r ∷ []) []) []
kept_if true true r = refl
kept_if true false r = refl
kept_if false c r = refl

kept_none : {R : Type 0} (b c : Bool) → [] ≡ cond b (cond c (let l : List R = [] in l) []) []
kept_none true true = refl
kept_none true false = refl
kept_none false c = refl

state_picks : (m i : ℕ) (e : ℕ × MachineValue) → has_part e.1 → filter_map (state_in m i) (machine_ops e) ≡ cond (is_eq (nat_cmp m e.0)) (cond (e.1.0 == i) (listed e.1.1.0) []) []
state_picks m i (q, (n, (None, None))) h = absurd h
state_picks m i (q, (n, (None, Some r))) h = kept_none (is_eq (nat_cmp m q)) (n == i)
state_picks m i (q, (n, (Some s, None))) h = rw (equal_tests q m) (kept_if (is_eq (nat_cmp m q)) (n == i) s)
state_picks m i (q, (n, (Some s, Some r))) h = rw (equal_tests q m) (kept_if (is_eq (nat_cmp m q)) (n == i) s)

report_picks : (m i : ℕ) (e : ℕ × MachineValue) → has_part e.1 → filter_map (report_in m i) (machine_ops e) ≡ cond (is_eq (nat_cmp m e.0)) (cond (e.1.0 == i) (listed e.1.1.1) []) []
report_picks m i (q, (n, (None, None))) h = absurd h
report_picks m i (q, (n, (None, Some r))) h = rw (equal_tests q m) (kept_if (is_eq (nat_cmp m q)) (n == i) r)
report_picks m i (q, (n, (Some s, None))) h = kept_none (is_eq (nat_cmp m q)) (n == i)
report_picks m i (q, (n, (Some s, Some r))) h = rw (equal_tests q m) (kept_if (is_eq (nat_cmp m q)) (n == i) r)

module _ (k : Table) (is : IsTable k) where
  jobs_in : (j : ℕ) → filter_map (job_in j) (ops k) ≡ found_in only (lookup nat_cmp j k.jobs)
  jobs_in j =
      parts (job_in j) k (found_in only (lookup nat_cmp j k.jobs)) [] [] []
      (picked nat_cmp job_ops (job_in j) j only Any (job_picks j) nat_cmp_total nat_same k.jobs is.jobs.rising is.jobs.values)
      (no_task (job_in j) (λ _ _. refl) (λ _ _. refl) k.tasks)
      (no_machine (job_in j) (λ _ _ _. refl) (λ _ _ _. refl) k.machines)
      (no_proposal (job_in j) (λ _ _ _. refl) k.proposals)
      ∙ append_none _ ∙ append_none _ ∙ append_none _

  job_again : (j : ℕ) → lookup nat_cmp j k.jobs ≡ job (ops k) j
  job_again j = sym (ap (all_of (max_join job_cmp)) (jobs_in j) ∙ elim (lookup nat_cmp j k.jobs) as (λ o. all_of (max_join job_cmp) (found_in only o) ≡ o) [ None ↦ refl | Some r ↦ refl ])

  tasks_in : {R : Type 0} (f : Op → Option R) (pick : TaskValue → List R) (t : ℕ) → ((e : ℕ × TaskValue) → Any e.1 → filter_map f (task_ops e) ≡ cond (is_eq (nat_cmp t e.0)) (pick e.1) []) → ((j : ℕ) (r : JobReg) → f (job_op j r) ≡ None) → ((m n : ℕ) (r : MachineReg) → f (machine_op m n r) ≡ None) → ((m n : ℕ) (r : Report) → f (report_op m n r) ≡ None) → ((at : ℕ × ℕ) (c : ℕ) (s : Spot) → f (propose_op at c s) ≡ None) → filter_map f (ops k) ≡ found_in pick (lookup nat_cmp t k.tasks)
  tasks_in f pick t says a b c d =
      parts f k [] (found_in pick (lookup nat_cmp t k.tasks)) [] [] (no_job f a k.jobs)
      (picked nat_cmp task_ops f t pick Any says nat_cmp_total nat_same k.tasks is.tasks.rising is.tasks.values)
      (no_machine f b c k.machines) (no_proposal f d k.proposals)
      ∙ append_none _ ∙ append_none _

  task_again : (t : ℕ) → lookup nat_cmp t k.tasks ≡ task (ops k) t
  task_again t =
      let specs = tasks_in (spec_in t) (λ v. listed v.0) t (spec_picks t) (λ _ _. refl) (λ _ _ _. refl) (λ _ _ _. refl) (λ _ _ _. refl) in
      let told = tasks_in (progress_in t) (λ v. only v.1) t (progress_picks t) (λ _ _. refl) (λ _ _ _. refl) (λ _ _ _. refl) (λ _ _ _. refl) in
      sym ((λ i. task_value (all_of (max_join spec_cmp) (specs i)) (all_of (max_join progress_cmp) (told i)))
      ∙ elim (lookup nat_cmp t k.tasks) as (λ o. task_value (all_of (max_join spec_cmp) (found_in (λ v. listed v.0) o)) (all_of (max_join progress_cmp) (found_in (λ v. only v.1) o)) ≡ o) [
        | None ↦ refl
        | Some v ↦ elim v.0 as (λ s. task_value (all_of (max_join spec_cmp) (listed s)) (Some v.1) ≡ Some (let w : TaskValue = (s, v.1) in w)) [ None ↦ refl | Some s ↦ refl ]
      ])

  machines_in : {R : Type 0} (f : Op → Option R) (pick : MachineValue → List R) (m : ℕ) → ((e : ℕ × MachineValue) → has_part e.1 → filter_map f (machine_ops e) ≡ cond (is_eq (nat_cmp m e.0)) (pick e.1) []) → ((j : ℕ) (r : JobReg) → f (job_op j r) ≡ None) → ((t : ℕ) (r : SpecReg) → f (spec_op t r) ≡ None) → ((t : ℕ) (p : Progress) → f (progress_op t p) ≡ None) → ((at : ℕ × ℕ) (c : ℕ) (s : Spot) → f (propose_op at c s) ≡ None) → filter_map f (ops k) ≡ found_in pick (lookup nat_cmp m k.machines)
  machines_in f pick m says a b c d =
      parts f k [] [] (found_in pick (lookup nat_cmp m k.machines)) [] (no_job f a k.jobs) (no_task f b c k.tasks)
      (picked nat_cmp machine_ops f m pick has_part says nat_cmp_total nat_same k.machines is.machines.rising is.machines.values)
      (no_proposal f d k.proposals)
      ∙ append_none _

  of_value : (v : MachineValue) → has_part v → (all_of (max_join nat_cmp) (incarnations v) ≡ Some v.0) × (all_of (max_join machine_cmp) (cond (v.0 == v.0) (listed v.1.0) []) ≡ v.1.0) × (all_of (max_join report_cmp) (cond (v.0 == v.0) (listed v.1.1) []) ≡ v.1.1)
  of_value (n, (None, None)) h = absurd h
  of_value (n, (None, Some r)) h = let e : (n == n) ≡ true = eq-eqb n n refl in (refl, rw e refl, rw e refl)
  of_value (n, (Some s, None)) h = let e : (n == n) ≡ true = eq-eqb n n refl in (refl, rw e refl, rw e refl)
  of_value (n, (Some s, Some r)) h = let e : (n == n) ≡ true = eq-eqb n n refl in (ap Some (max_idem nat_cmp nat_cmp_total nat_same n), rw e refl, rw e refl)

  of_lookup : (o : Option MachineValue) → IsOptionOf has_part o → option_map (λ n. let w : MachineValue = (n, (all_of (max_join machine_cmp) (found_in (λ v. cond (v.0 == n) (listed v.1.0) []) o), all_of (max_join report_cmp) (found_in (λ v. cond (v.0 == n) (listed v.1.1) []) o))) in w) (all_of (max_join nat_cmp) (found_in incarnations o)) ≡ o
  of_lookup None h = refl
  of_lookup (Some v) h = let e = of_value v h in rw e.0 (λ i. Some (v.0, (e.1 i, e.2 i)))

  machine_again : (m : ℕ) → lookup nat_cmp m k.machines ≡ machine (ops k) m
  machine_again m =
      let told = machines_in (incarnation_in m) incarnations m (incarnation_picks m) (λ _ _. refl) (λ _ _. refl) (λ _ _. refl) (λ _ _ _. refl) in
      let states = λ (i : ℕ). machines_in (state_in m i) (λ v. cond (v.0 == i) (listed v.1.0) []) m (state_picks m i) (λ _ _. refl) (λ _ _. refl) (λ _ _. refl) (λ _ _ _. refl) in
      let reports = λ (i : ℕ). machines_in (report_in m i) (λ v. cond (v.0 == i) (listed v.1.1) []) m (report_picks m i) (λ _ _. refl) (λ _ _. refl) (λ _ _. refl) (λ _ _ _. refl) in
      sym ((λ i. option_map (λ n. (n, (all_of (max_join machine_cmp) (states n i), all_of (max_join report_cmp) (reports n i)))) (all_of (max_join nat_cmp) (told i)))
      ∙ of_lookup (lookup nat_cmp m k.machines) (lookup_value nat_cmp nat_cmp_total nat_same has_part m k.machines is.machines.values))

  no_other : {R : Type 0} (f : Op → Option R) (pick : List (ℕ × Spot) → List R) (at : ℕ × ℕ) → ((e : (ℕ × ℕ) × List (ℕ × Spot)) → IsFull e.1 → filter_map f (entry_ops e) ≡ cond (is_eq (attempt_cmp at e.0)) (pick e.1) []) → ((j : ℕ) (r : JobReg) → f (job_op j r) ≡ None) → ((t : ℕ) (r : SpecReg) → f (spec_op t r) ≡ None) → ((t : ℕ) (p : Progress) → f (progress_op t p) ≡ None) → ((m n : ℕ) (r : MachineReg) → f (machine_op m n r) ≡ None) → ((m n : ℕ) (r : Report) → f (report_op m n r) ≡ None) → filter_map f (ops k) ≡ found_in pick (lookup attempt_cmp at k.proposals)
  no_other f pick at says a b c d g =
      parts f k [] [] [] (found_in pick (lookup attempt_cmp at k.proposals)) (no_job f a k.jobs) (no_task f b c k.tasks) (no_machine f d g k.machines)
      (picked attempt_cmp entry_ops f at pick IsFull says total_attempt same_attempt k.proposals is.proposals.rising is.proposals.values)

both_equal_tests : (a b : Ordering) → is_eq a && is_eq b ≡ is_eq (ordering_then a b)
both_equal_tests Less b = refl
both_equal_tests Equal b = refl
both_equal_tests Greater b = refl

attempt_tests : (at q : ℕ × ℕ) → (q.0 == at.0 && q.1 == at.1) ≡ is_eq (attempt_cmp at q)
attempt_tests at q = let a = equal_tests q.0 at.0 in let b = equal_tests q.1 at.1 in (λ i. a i && b i) ∙ both_equal_tests (nat_cmp at.0 q.0) (nat_cmp at.1 q.1)

abbrev all_when : Bool → ℕ → List (ℕ × Spot) → List Spot
all_when b c [] = []
all_when b c (e ∷ es) = cons_option (when (b && e.0 == c) e.1) (all_when b c es)

-- the spots of one attempt, by whether it is the one that is asked for
spot_picks_by : (b : Bool) (c : ℕ) (es : List (ℕ × Spot)) → IsRising nat_cmp es → all_when b c es ≡ cond b (listed (lookup nat_cmp c es)) []
spot_picks_by true c [] r = refl
spot_picks_by false c [] r = refl
spot_picks_by false c (e ∷ es) r = spot_picks_by false c es r.1
spot_picks_by true c (e ∷ es) r =
    rw (equal_tests e.0 c)
    (by_cases (nat_cmp c e.0) (λ o. cons_option (when (is_eq o) e.1) (all_when true c es) ≡ listed (cond (is_eq o) (Some e.1) (lookup nat_cmp c es)))
    (λ _. spot_picks_by true c es r.1)
    (λ t.
    let same : c ≡ e.0 = nat_same c e.0 t in
    let none : lookup nat_cmp c es ≡ None = subst (λ z. lookup nat_cmp z es ≡ None) (sym same) (lookup_below nat_cmp nat_cmp_total nat_same e.0 es r.0) in
    ap (λ z. e.1 ∷ z) (spot_picks_by true c es r.1 ∙ ap listed none))
    (λ _. spot_picks_by true c es r.1))

spots_of : (at q : ℕ × ℕ) (c : ℕ) (es : List (ℕ × Spot)) → filter_map (spot_in at c) (entry_ops (q, es)) ≡ all_when (q.0 == at.0 && q.1 == at.1) c es
spots_of at q c [] = refl
spots_of at q c (e ∷ es) = ap (cons_option (when (q.0 == at.0 && q.1 == at.1 && e.0 == c) e.1)) (spots_of at q c es)

spot_picks : (at : ℕ × ℕ) (c : ℕ) (e : (ℕ × ℕ) × List (ℕ × Spot)) → IsFull e.1 → filter_map (spot_in at c) (entry_ops e) ≡ cond (is_eq (attempt_cmp at e.0)) (listed (lookup nat_cmp c e.1)) []
spot_picks at c e full = spots_of at e.0 c e.1 ∙ ap (λ b. all_when b c e.1) (attempt_tests at e.0) ∙ spot_picks_by (is_eq (attempt_cmp at e.0)) c e.1 full.rising

module _ (k : Table) (is : IsTable k) where
  entry_again : (at : ℕ × ℕ) (c : ℕ) → entry (ops k) at c ≡ all_of (min_join spot_cmp) (found_in (λ es. listed (lookup nat_cmp c es)) (lookup attempt_cmp at k.proposals))
  entry_again at c = ap (all_of (min_join spot_cmp)) (no_other k is (spot_in at c) (λ es. listed (lookup nat_cmp c es)) at (spot_picks at c) (λ _ _. refl) (λ _ _. refl) (λ _ _. refl) (λ _ _ _. refl) (λ _ _ _. refl))

  entries_by : (at : ℕ × ℕ) (o : Option (List (ℕ × Spot))) → IsOptionOf IsFull o → ((c : ℕ) → entry (ops k) at c ≡ all_of (min_join spot_cmp) (found_in (λ es. listed (lookup nat_cmp c es)) o)) → entries (ops k) at ≡ o
  entries_by at None full is_at = ap unless_empty (same_map nat_cmp nat_cmp_total nat_same _ [] (rising_table nat_cmp nat_cmp_total nat_same (entry (ops k) at) (filter_map coordinator_named (ops k))) tt (λ c. lookup_entry (ops k) at c ∙ is_at c))
  entries_by at (Some es) full is_at =
      ap unless_empty (same_map nat_cmp nat_cmp_total nat_same _ es (rising_table nat_cmp nat_cmp_total nat_same (entry (ops k) at) (filter_map coordinator_named (ops k))) full.rising
      (λ c. lookup_entry (ops k) at c ∙ is_at c ∙ elim (lookup nat_cmp c es) as (λ o. all_of (min_join spot_cmp) (listed o) ≡ o) [ None ↦ refl | Some s ↦ refl ]))
      ∙ full.full

  pub know_ops : k ≡ table_of (ops k)
  know_ops = is_know (ops k) k (record {
    jobs_rise = is.jobs.rising;
    tasks_rise = is.tasks.rising;
    machines_rise = is.machines.rising;
    proposals_rise = is.proposals.rising;
    each_job = job_again k is;
    each_task = task_again k is;
    each_machine = machine_again k is;
    each_attempt = λ at. sym (entries_by at (lookup attempt_cmp at k.proposals) (lookup_value attempt_cmp total_attempt same_attempt IsFull at k.proposals is.proposals.values) (entry_again at));
  })
