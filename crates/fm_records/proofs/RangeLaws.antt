-- The table of a set of operations in range is a possible table.
use Rattle.std.specs.Prelude.{◌≡◌, ◌⊎◌, ℕ, Bool, true, false, cond, ◌==◌, ◌&&◌, List, [], ◌∷◌, ◌++◌, Option, Some, None, option_map, flat_map, refl}
use Rattle.std.specs.List.{filter_map, list_all}
use Rattle.std.specs.Ordering.{nat_cmp, is_eq}
use Rattle.std.specs.Cmp.{IsTotalOrder, nat_cmp_total}
use Rattle.std.specs.declared.cmp.Ordering.{Ordering}
use Rattle.std.proofs.Common.{sym, ap, ◌∙◌, subst, inl, inr, eq-eqb}
use Rattle.std.proofs.lemmas.Bool.{eqb-true}
use Rattle.std.proofs.lemmas.Cmp.{tied_itself}
use Rattle.std.proofs.lemmas.List.Folds.{list_all-append}
use Rattle.std.proofs.lemmas.List.Concat.{flat_map_single}
use Rattle.fm_lattice.specs.Chains.{TellsApart}
use Rattle.fm_lattice.specs.laws.ChainLaws.{nat_same, by_cases}
use Rattle.fm_lattice.specs.Joins.{max_join, option_join, Any}
use Rattle.fm_lattice.specs.Maps.{lookup, IsBelow, IsRising, AreValues}
use Rattle.fm_lattice.specs.laws.MapLaws.{lookup_below}
use Rattle.fm_records.specs.declared.ops.Op.{Op}
use Rattle.fm_records.specs.declared.ops.Op.TheVariants as op
use Rattle.fm_records.specs.declared.records.JobReg.{JobReg}
use Rattle.fm_records.specs.declared.records.SpecReg.{SpecReg}
use Rattle.fm_records.specs.declared.records.Progress.{Progress}
use Rattle.fm_records.specs.declared.records.MachineReg.{MachineReg}
use Rattle.fm_records.specs.declared.records.Report.{Report}
use Rattle.fm_records.specs.declared.records.Spot.{Spot}
use Rattle.fm_records.specs.Options.{when}
use Rattle.fm_records.specs.Sets.{IsMember, all_of, greatest, least, table, unless_empty}
use Rattle.fm_records.specs.Orders.{job_cmp, spec_cmp, progress_cmp, machine_cmp, report_cmp, spot_cmp, attempt_cmp}
use Rattle.fm_records.specs.laws.OrderLaws.{total_job, total_spec, total_progress, total_machine, total_report, total_spot, total_attempt, same_attempt}
use Rattle.fm_records.specs.Table.{Table, TaskValue, MachineValue}
use Rattle.fm_records.specs.Know.{job_in, spec_in, progress_in, incarnation_in, state_in, report_in, spot_in, coordinator_named, job, spec, greatest_progress, incarnation, state_at, report_at, task_value, machine_at, machine, entry, entries, table_of}
use Rattle.fm_records.specs.OpsOfTable.{each, job_op, job_ops, spec_op, progress_op, task_ops, machine_op, report_op, machine_ops, propose_op, entry_ops, ops, has_part, IsFull, IsTable}
use Rattle.fm_records.specs.Ranges.{is_id, fits_row, fields_fit, in_range, all_in_range, CanBe}
use Rattle.fm_records.specs.Characterized.{IsGreatest, IsGreatestOf, IsLeastMember, IsLeastOf}
use Rattle.fm_records.proofs.SetLaws.{member_from, member_kept}
use Rattle.fm_records.proofs.GreatestLaws.{greatest_is, least_is}
use Rattle.fm_records.proofs.TableLaws.{some_none, rising_table}
use Rattle.fm_records.proofs.LookupLaws.{none_some, when_is_true, both_true, lookup_job, lookup_task, lookup_machine, lookup_entry, lookup_entries}
use Rattle.fm_records.proofs.KnowLaws.{know_is}

both_hold : (a b : Bool) → a ≡ true → b ≡ true → a && b ≡ true
both_hold a b p q = rw (p, q) refl

pub inside : {A : Type 0} (a b : A) → Some a ≡ Some b → a ≡ b
inside a b e = cc

pub when_value : {A : Type 0} (b : Bool) (x v : A) → when b x ≡ Some v → x ≡ v
when_value true x v e = inside x v e
when_value false x v e = none_some v e

module _ {X : Type 0} (p : X → Bool) where
  pub all_pass : (xs ys : List X) → list_all p xs ≡ true → list_all p ys ≡ true → list_all p (xs ++ ys) ≡ true
  all_pass xs ys a b = list_all-append p xs ys ∙ both_hold (list_all p xs) (list_all p ys) a b

  pub both_pass : (xs ys : List X) → list_all p (xs ++ ys) ≡ true → (list_all p xs ≡ true) × (list_all p ys ≡ true)
  both_pass xs ys e = both_true (list_all p xs) (list_all p ys) (sym (list_all-append p xs ys) ∙ e)

  pub member_passes : (xs : List X) (x : X) → list_all p xs ≡ true → IsMember x xs → p x ≡ true
  member_passes [] x e h = absurd h
  member_passes (y ∷ ys) x e h =
      let parts = both_true (p y) (list_all p ys) e in
      elim h [ inl is ↦ subst (λ z. p z ≡ true) is parts.0 | inr later ↦ member_passes ys x parts.1 later ]

module _ {K V : Type 0} (cmp : K → K → Ordering) (total : IsTotalOrder cmp) (same : TellsApart cmp) where
  -- what is found behind a row is found with it
  found_later : (e : K × V) (es : List (K × V)) → IsBelow cmp e.0 es → (q : K) (v : V) → lookup cmp q es ≡ Some v → lookup cmp q (e ∷ es) ≡ Some v
  found_later e es b q v is =
      by_cases (cmp q e.0) (λ o. cond (is_eq o) (Some e.1) (lookup cmp q es) ≡ Some v)
      (λ _. is)
      (λ t. none_some v (sym (ap (λ z. lookup cmp z es) (same q e.0 t) ∙ lookup_below cmp total same e.0 es b) ∙ is))
      (λ _. is)

  -- a fact of each value that is found is one of all values
  pub values_by : (is_value : V → Type 0) (es : List (K × V)) → IsRising cmp es → ((q : K) (v : V) → lookup cmp q es ≡ Some v → is_value v) → AreValues is_value es
  values_by is_value [] r h = tt
  values_by is_value (e ∷ es) r h = (h e.0 e.1 (rw (tied_itself total e.0) refl), values_by is_value es r.1 (λ q v is. h q v (found_later e es r.0 q v is)))

  module _ {X : Type 0} (p : X → Bool) (f : K × V → List X) where
    -- what rows spell passes where what each found row spells does
    pub rows_pass : (es : List (K × V)) → IsRising cmp es → ((q : K) (v : V) → lookup cmp q es ≡ Some v → list_all p (f (q, v)) ≡ true) → list_all p (flat_map f es) ≡ true
    rows_pass [] r h = refl
    rows_pass (e ∷ es) r h =
        all_pass p (f e) (flat_map f es)
        (h e.0 e.1 (rw (tied_itself total e.0) refl))
        (rows_pass es r.1 (λ q v is. h q v (found_later e es r.0 q v is)))

    -- and the other way round
    pub row_passes : (es : List (K × V)) → list_all p (flat_map f es) ≡ true → (q : K) (v : V) → lookup cmp q es ≡ Some v → list_all p (f (q, v)) ≡ true
    row_passes [] a q v is = none_some v is
    row_passes (e ∷ es) a q v is =
        let parts = both_pass p (f e) (flat_map f es) a in
        by_cases (cmp q e.0) (λ o. cond (is_eq o) (Some e.1) (lookup cmp q es) ≡ Some v → list_all p (f (q, v)) ≡ true)
        (λ _ g. row_passes es parts.1 q v g)
        (λ t g. let key = same q e.0 t in let value = inside e.1 v g in (λ i. list_all p (f (key i, sym value i))) ∙ parts.0)
        (λ _ g. row_passes es parts.1 q v g)
        is

-- An operation that tells a record of a key is the one that spells it out.

job_spells : (j : ℕ) (o : Op) (r : JobReg) → job_in j o ≡ Some r → o ≡ job_op j r
job_spells j (op.Job id version writer withdrawn wait preempt) r e =
    let key = eqb-true id j (when_is_true (id == j) _ r e) in
    let value = when_value (id == j) _ r e in
    λ i. op.Job (key i) (value i).version (value i).writer (value i).withdrawn (value i).wait (value i).preempt
job_spells j _ r e = none_some r e

spec_spells : (t : ℕ) (o : Op) (r : SpecReg) → spec_in t o ≡ Some r → o ≡ spec_op t r
spec_spells t (op.Spec id version writer withdrawn job request prefer) r e =
    let key = eqb-true id t (when_is_true (id == t) _ r e) in
    let value = when_value (id == t) _ r e in
    λ i. op.Spec (key i) (value i).version (value i).writer (value i).withdrawn (value i).job (value i).request (value i).prefer
spec_spells t _ r e = none_some r e

progress_spells : (t : ℕ) (o : Op) (p : Progress) → progress_in t o ≡ Some p → o ≡ progress_op t p
progress_spells t (op.Progress id attempt phase) p e =
    let key = eqb-true id t (when_is_true (id == t) _ p e) in
    let value = when_value (id == t) _ p e in
    λ i. op.Progress (key i) (value i).attempt (value i).phase
progress_spells t _ p e = none_some p e

state_spells : (m n : ℕ) (o : Op) (r : MachineReg) → state_in m n o ≡ Some r → o ≡ machine_op m n r
state_spells m n (op.Machine id incarnation version writer up slots nic) r e =
    let keys = both_true (id == m) (incarnation == n) (when_is_true (id == m && incarnation == n) _ r e) in
    let key = eqb-true id m keys.0 in
    let at = eqb-true incarnation n keys.1 in
    let value = when_value (id == m && incarnation == n) _ r e in
    λ i. op.Machine (key i) (at i) (value i).version (value i).writer (value i).up (value i).slots (value i).nic
state_spells m n _ r e = none_some r e

report_spells : (m n : ℕ) (o : Op) (r : Report) → report_in m n o ≡ Some r → o ≡ report_op m n r
report_spells m n (op.Report id incarnation number used) r e =
    let keys = both_true (id == m) (incarnation == n) (when_is_true (id == m && incarnation == n) _ r e) in
    let key = eqb-true id m keys.0 in
    let at = eqb-true incarnation n keys.1 in
    let value = when_value (id == m && incarnation == n) _ r e in
    λ i. op.Report (key i) (at i) (value i).number (value i).used
report_spells m n _ r e = none_some r e

spot_spells : (at : ℕ × ℕ) (c : ℕ) (o : Op) (s : Spot) → spot_in at c o ≡ Some s → o ≡ propose_op at c s
spot_spells at c (op.Propose id attempt coordinator machine incarnation) s e =
    let keys = both_true (id == at.0 && attempt == at.1) (coordinator == c) (when_is_true (id == at.0 && attempt == at.1 && coordinator == c) _ s e) in
    let first = both_true (id == at.0) (attempt == at.1) keys.0 in
    let task = eqb-true id at.0 first.0 in
    let number = eqb-true attempt at.1 first.1 in
    let who = eqb-true coordinator c keys.1 in
    let value = when_value (id == at.0 && attempt == at.1 && coordinator == c) _ s e in
    λ i. op.Propose (task i) (number i) (who i) (value i).machine (value i).incarnation
spot_spells at c _ s e = none_some s e

pub greatest_member : {R : Type 0} (cmp : R → R → Ordering) → IsTotalOrder cmp → (xs : List R) (r : R) → greatest cmp xs ≡ Some r → IsMember r xs
greatest_member cmp total xs r e = let g : IsGreatest cmp xs r = subst (IsGreatestOf cmp xs) e (greatest_is cmp total xs) in g.is_member

pub least_member : {R : Type 0} (cmp : R → R → Ordering) → IsTotalOrder cmp → (xs : List R) (r : R) → least cmp xs ≡ Some r → IsMember r xs
least_member cmp total xs r e = let g : IsLeastMember cmp xs r = subst (IsLeastOf cmp xs) e (least_is cmp total xs) in g.is_member

-- a list with a member has a join
pub all_of_some : {R : Type 0} (join : R → R → R) (xs : List R) (x : R) → IsMember x xs → all_of join xs ≡ None → ⊥
all_of_some join [] x h e = h
all_of_some join (y ∷ ys) x h e = elim (all_of join ys) as (λ o. option_join join (Some y) o ≡ None → ⊥) [ None ↦ λ g. some_none y g | Some z ↦ λ g. some_none (join y z) g ] e

each_passes : {R : Type 0} (f : R → Op) (o : Option R) → ((r : R) → o ≡ Some r → in_range (f r) ≡ true) → all_in_range (each f o) ≡ true
each_passes f None h = refl
each_passes f (Some r) h = both_hold (in_range (f r)) true (h r refl) refl

id_of_spec : (t : ℕ) (s : SpecReg) → in_range (spec_op t s) ≡ true → is_id t ≡ true
id_of_spec t s e =
    let whole = both_true (fields_fit (spec_op t s)) _ e in
    let row = both_true _ (fits_row s.prefer) whole.0 in
    let ids = both_true _ (is_id s.job) row.0 in
    (both_true (is_id t) _ ids.0).0

module _ (S : List Op) (ranged : all_in_range S ≡ true) where
  told_fine : {R : Type 0} (f : Op → Option R) (spell : R → Op) → ((o : Op) (r : R) → f o ≡ Some r → o ≡ spell r) → (r : R) → IsMember r (filter_map f S) → in_range (spell r) ≡ true
  told_fine f spell spells r m = let from = member_from f S r m in subst (λ o. in_range o ≡ true) (spells from.0 r from.2) (member_passes in_range S from.0 ranged from.1)

  progress_fine : (t : ℕ) (p : Progress) → greatest_progress S t ≡ Some p → in_range (progress_op t p) ≡ true
  progress_fine t p e = told_fine (progress_in t) (progress_op t) (progress_spells t) p (greatest_member progress_cmp total_progress (filter_map (progress_in t) S) p e)

  spec_fine : (t : ℕ) (s : SpecReg) → spec S t ≡ Some s → in_range (spec_op t s) ≡ true
  spec_fine t s e = told_fine (spec_in t) (spec_op t) (spec_spells t) s (greatest_member spec_cmp total_spec (filter_map (spec_in t) S) s e)

  task_fine : (t : ℕ) (a : Option SpecReg) (b : Option Progress) → spec S t ≡ a → greatest_progress S t ≡ b → (v : TaskValue) → task_value a b ≡ Some v → all_in_range (task_ops (t, v)) ≡ true
  task_fine t None None e g v is = none_some v is
  task_fine t None (Some p) e g v is = subst (λ w. all_in_range (task_ops (t, w)) ≡ true) (inside _ v is) (both_hold (in_range (progress_op t p)) true (progress_fine t p g) refl)
  task_fine t (Some s) None e g v is =
      let fine = spec_fine t s e in
      subst (λ w. all_in_range (task_ops (t, w)) ≡ true) (inside _ v is) (both_hold (in_range (spec_op t s)) _ fine (rw (id_of_spec t s fine) refl))
  task_fine t (Some s) (Some p) e g v is = subst (λ w. all_in_range (task_ops (t, w)) ≡ true) (inside _ v is) (both_hold (in_range (spec_op t s)) _ (spec_fine t s e) (both_hold (in_range (progress_op t p)) true (progress_fine t p g) refl))

  machine_fine : (m : ℕ) (o : Option ℕ) (v : MachineValue) → option_map (machine_at S m) o ≡ Some v → all_in_range (machine_ops (m, v)) ≡ true
  machine_fine m None v is = none_some v is
  machine_fine m (Some n) v is =
      subst (λ w. all_in_range (machine_ops (m, w)) ≡ true) (inside _ v is)
      (all_pass in_range (each (machine_op m n) (state_at S m n)) (each (report_op m n) (report_at S m n))
      (each_passes (machine_op m n) (state_at S m n) (λ r e. told_fine (state_in m n) (machine_op m n) (state_spells m n) r (greatest_member machine_cmp total_machine (filter_map (state_in m n) S) r e)))
      (each_passes (report_op m n) (report_at S m n) (λ r e. told_fine (report_in m n) (report_op m n) (report_spells m n) r (greatest_member report_cmp total_report (filter_map (report_in m n) S) r e))))

  entry_fine : (at : ℕ × ℕ) (c : ℕ) (s : Spot) → entry S at c ≡ Some s → in_range (propose_op at c s) ≡ true
  entry_fine at c s e = told_fine (spot_in at c) (propose_op at c) (spot_spells at c) s (least_member spot_cmp total_spot (filter_map (spot_in at c) S) s e)

unless_is : {R : Type 0} (xs ys : List R) → unless_empty xs ≡ Some ys → xs ≡ ys
unless_is [] ys e = none_some ys e
unless_is (x ∷ xs) ys e = inside (x ∷ xs) ys e

module _ (S : List Op) (at : ℕ × ℕ) where
  abbrev spots : List (ℕ × Spot)
  spots = table nat_cmp (filter_map coordinator_named S) (entry S at)

  pub spots_rise : IsRising nat_cmp (table nat_cmp (filter_map coordinator_named S) (entry S at))
  spots_rise = rising_table nat_cmp nat_cmp_total nat_same (entry S at) (filter_map coordinator_named S)

  entries_fine : all_in_range S ≡ true → (es : List (ℕ × Spot)) → entries S at ≡ Some es → all_in_range (entry_ops (at, es)) ≡ true
  entries_fine ranged es e =
      subst (λ z. all_in_range (entry_ops (at, z)) ≡ true) (unless_is spots es e)
      (sym (ap (list_all in_range) (flat_map_single (λ (c : ℕ × Spot). propose_op at c.0 c.1) spots))
      ∙ rows_pass nat_cmp nat_cmp_total nat_same in_range (λ c. propose_op at c.0 c.1 ∷ []) spots spots_rise
      (λ c s is. both_hold (in_range (propose_op at c s)) true (entry_fine S ranged at c s (sym (lookup_entry S at c) ∙ is)) refl))

  entries_full : (es : List (ℕ × Spot)) → entries S at ≡ Some es → IsFull es
  entries_full es e = let is = unless_is spots es e in subst IsFull is (record { rising = spots_rise; full = e ∙ ap Some (sym is) })

-- an incarnation that is told is told by a state or a report
part_told : (m n : ℕ) (o : Op) → incarnation_in m o ≡ Some n → ((s : MachineReg) × (state_in m n o ≡ Some s)) ⊎ ((r : Report) × (report_in m n o ≡ Some r))
part_told m n (op.Machine id incarnation version writer up slots nic) e =
    let is = when_is_true (id == m) incarnation n e in
    let at = eq-eqb incarnation n (when_value (id == m) incarnation n e) in
    inl (record { version = version; writer = writer; up = up; slots = slots; nic = nic }, rw (is, at) refl)
part_told m n (op.Report id incarnation number used) e =
    let is = when_is_true (id == m) incarnation n e in
    let at = eq-eqb incarnation n (when_value (id == m) incarnation n e) in
    inr (record { number = number; used = used }, rw (is, at) refl)
part_told m n _ e = none_some n e

with_state : (n : ℕ) (s : MachineReg) (b : Option Report) → has_part (n, (Some s, b))
with_state n s b = tt

with_report : (n : ℕ) (a : Option MachineReg) (r : Report) → has_part (n, (a, Some r))
with_report n None r = tt
with_report n (Some s) r = tt

module _ (S : List Op) (m n : ℕ) where
  by_state : (s : MachineReg) → IsMember s (filter_map (state_in m n) S) → has_part (machine_at S m n)
  by_state s h = elim (state_at S m n) as (λ a. state_at S m n ≡ a → has_part (n, (a, report_at S m n))) [
    | None ↦ λ e. absurd (all_of_some (max_join machine_cmp) (filter_map (state_in m n) S) s h e)
    | Some a ↦ λ _. tt
  ] refl

  by_report : (r : Report) → IsMember r (filter_map (report_in m n) S) → has_part (machine_at S m n)
  by_report r h = elim (report_at S m n) as (λ b. report_at S m n ≡ b → has_part (n, (state_at S m n, b))) [
    | None ↦ λ e. absurd (all_of_some (max_join report_cmp) (filter_map (report_in m n) S) r h e)
    | Some b ↦ λ _. with_report n (state_at S m n) b
  ] refl

  part_known : incarnation S m ≡ Some n → has_part (machine_at S m n)
  part_known e =
      let from = member_from (incarnation_in m) S n (greatest_member nat_cmp nat_cmp_total (filter_map (incarnation_in m) S) n e) in
      elim (part_told m n from.0 from.2) [
        | inl a ↦ by_state a.0 (member_kept (state_in m n) from.0 a.0 S a.1 from.1)
        | inr b ↦ by_report b.0 (member_kept (report_in m n) from.0 b.0 S b.1 from.1)
      ]

machine_known : (S : List Op) (m : ℕ) (o : Option ℕ) → incarnation S m ≡ o → (v : MachineValue) → option_map (machine_at S m) o ≡ Some v → has_part v
machine_known S m None e v is = none_some v is
machine_known S m (Some n) e v is = subst has_part (inside _ v is) (part_known S m n e)

pub know_table : (S : List Op) → IsTable (table_of S)
know_table S =
    let k = know_is S in
    record {
      jobs = record { rising = k.jobs_rise; values = values_by nat_cmp nat_cmp_total nat_same Any (table_of S).jobs k.jobs_rise (λ j v _. tt) };
      tasks = record { rising = k.tasks_rise; values = values_by nat_cmp nat_cmp_total nat_same Any (table_of S).tasks k.tasks_rise (λ t v _. tt) };
      machines = record { rising = k.machines_rise; values = values_by nat_cmp nat_cmp_total nat_same has_part (table_of S).machines k.machines_rise (λ m v is. machine_known S m (incarnation S m) refl v (sym (lookup_machine S m) ∙ is)) };
      proposals = record { rising = k.proposals_rise; values = values_by attempt_cmp total_attempt same_attempt IsFull (table_of S).proposals k.proposals_rise (λ at es is. entries_full S at es (sym (lookup_entries S at) ∙ is)) };
    }

pub know_in_range : (S : List Op) → all_in_range S ≡ true → all_in_range (ops (table_of S)) ≡ true
know_in_range S ranged =
    let k = know_is S in
    let a : List Op = flat_map job_ops (table_of S).jobs in
    let b : List Op = flat_map task_ops (table_of S).tasks in
    let c : List Op = flat_map machine_ops (table_of S).machines in
    let jobs = rows_pass nat_cmp nat_cmp_total nat_same in_range job_ops (table_of S).jobs k.jobs_rise (λ j r is. both_hold (in_range (job_op j r)) true (told_fine S ranged (job_in j) (job_op j) (job_spells j) r (greatest_member job_cmp total_job (filter_map (job_in j) S) r (sym (lookup_job S j) ∙ is))) refl) in
    let tasks = rows_pass nat_cmp nat_cmp_total nat_same in_range task_ops (table_of S).tasks k.tasks_rise (λ t v is. task_fine S ranged t (spec S t) (greatest_progress S t) refl refl v (sym (lookup_task S t) ∙ is)) in
    let machines = rows_pass nat_cmp nat_cmp_total nat_same in_range machine_ops (table_of S).machines k.machines_rise (λ m v is. machine_fine S ranged m (incarnation S m) v (sym (lookup_machine S m) ∙ is)) in
    let proposals = rows_pass attempt_cmp total_attempt same_attempt in_range entry_ops (table_of S).proposals k.proposals_rise (λ at es is. entries_fine S at ranged es (sym (lookup_entries S at) ∙ is)) in
    all_pass in_range (a ++ b ++ c) (flat_map entry_ops (table_of S).proposals) (all_pass in_range (a ++ b) c (all_pass in_range a b jobs tasks) machines) proposals

pub know_can_be : (S : List Op) → all_in_range S ≡ true → CanBe (table_of S)
know_can_be S ranged = record { table = know_table S; in_range = know_in_range S ranged }

-- What is found in a possible table is in range.

module _ (k : Table) (is : CanBe k) where
  abbrev first_two : List Op
  first_two = flat_map job_ops k.jobs ++ flat_map task_ops k.tasks

  abbrev first_three : List Op
  first_three = first_two ++ flat_map machine_ops k.machines

  parts : (all_in_range first_three ≡ true) × (all_in_range (flat_map entry_ops k.proposals) ≡ true)
  parts = both_pass in_range first_three (flat_map entry_ops k.proposals) is.in_range

  more : (all_in_range first_two ≡ true) × (all_in_range (flat_map machine_ops k.machines) ≡ true)
  more = both_pass in_range first_two (flat_map machine_ops k.machines) parts.0

  pub job_in_range : (j : ℕ) (r : JobReg) → lookup nat_cmp j k.jobs ≡ Some r → in_range (job_op j r) ≡ true
  job_in_range j r e = (both_true (in_range (job_op j r)) true (row_passes nat_cmp nat_cmp_total nat_same in_range job_ops k.jobs (both_pass in_range (flat_map job_ops k.jobs) (flat_map task_ops k.tasks) more.0).0 j r e)).0

  pub task_in_range : (t : ℕ) (v : TaskValue) → lookup nat_cmp t k.tasks ≡ Some v → all_in_range (task_ops (t, v)) ≡ true
  task_in_range = row_passes nat_cmp nat_cmp_total nat_same in_range task_ops k.tasks (both_pass in_range (flat_map job_ops k.jobs) (flat_map task_ops k.tasks) more.0).1

  pub machine_in_range : (m : ℕ) (v : MachineValue) → lookup nat_cmp m k.machines ≡ Some v → all_in_range (machine_ops (m, v)) ≡ true
  machine_in_range = row_passes nat_cmp nat_cmp_total nat_same in_range machine_ops k.machines more.1

  pub entries_in_range : (at : ℕ × ℕ) (es : List (ℕ × Spot)) → lookup attempt_cmp at k.proposals ≡ Some es → all_in_range (entry_ops (at, es)) ≡ true
  entries_in_range = row_passes attempt_cmp total_attempt same_attempt in_range entry_ops k.proposals parts.1
