-- What is found in the table of a set of operations.
use Rattle.std.specs.Prelude.{◌≡◌, ℕ, Bool, true, false, ◌==◌, ◌&&◌, List, [], ◌∷◌, Option, Some, None, option_map, refl}
use Rattle.std.specs.List.{filter_map, cons_option}
use Rattle.std.specs.Ordering.{nat_cmp}
use Rattle.std.specs.Cmp.{nat_cmp_total}
use Rattle.std.proofs.Common.{sym, ap, subst, inl, inr}
use Rattle.std.proofs.lemmas.Bool.{eqb-true}
use Rattle.fm_lattice.specs.laws.ChainLaws.{nat_same}
use Rattle.fm_lattice.specs.Maps.{lookup}
use Rattle.fm_records.specs.declared.ops.Op.{Op}
use Rattle.fm_records.specs.declared.ops.Op.TheVariants as op
use Rattle.fm_records.specs.declared.records.JobReg.{JobReg}
use Rattle.fm_records.specs.declared.records.SpecReg.{SpecReg}
use Rattle.fm_records.specs.declared.records.Progress.{Progress}
use Rattle.fm_records.specs.declared.records.Spot.{Spot}
use Rattle.fm_records.specs.Sets.{IsMember, all_of, table, rising, with_value, unless_empty}
use Rattle.fm_records.specs.Orders.{attempt_cmp}
use Rattle.fm_records.specs.laws.OrderLaws.{total_attempt, same_attempt}
use Rattle.fm_records.specs.Table.{TaskValue, MachineValue}
use Rattle.fm_records.specs.Know.{when, job_in, spec_in, progress_in, incarnation_in, spot_in, job_named, task_named, machine_named, attempt_named, coordinator_named, job, spec, greatest_progress, incarnation, machine_at, task_value, task, machine, entry, entries, table_of}
use Rattle.fm_records.proofs.TableLaws.{some_none, lookup_table}

pub none_some : {A B : Type 0} (a : A) → None ≡ Some a → B
none_some a e = some_none a (sym e)

pub when_is_true : {A : Type 0} (b : Bool) (x v : A) → when b x ≡ Some v → b ≡ true
when_is_true true x v e = refl
when_is_true false x v e = none_some v e

pub both_true : (a b : Bool) → a && b ≡ true → (a ≡ true) × (b ≡ true)
both_true true b e = (refl, e)
both_true false b e = cc

member_after : {K : Type 0} (q : K) (o : Option K) (xs : List K) → IsMember q xs → IsMember q (cons_option o xs)
member_after q None xs h = h
member_after q (Some k) xs h = inr h

-- an operation that gives a value at a name mentions the name
pub names_member : {V K : Type 0} (f : Op → Option V) (name : Op → Option K) (join : V → V → V) (q : K) → ((o : Op) (v : V) → f o ≡ Some v → name o ≡ Some q) → (S : List Op) (v : V) → all_of join (filter_map f S) ≡ Some v → IsMember q (filter_map name S)
names_member f name join q says [] v e = none_some v e
names_member f name join q says (o ∷ S) v e =
    elim (f o) as (λ r. f o ≡ r → all_of join (cons_option r (filter_map f S)) ≡ Some v → IsMember q (cons_option (name o) (filter_map name S))) [
      | None ↦ λ _ h. member_after q (name o) (filter_map name S) (names_member f name join q says S v h)
      | Some w ↦ λ g _. subst (λ z. IsMember q (cons_option z (filter_map name S))) (sym (says o w g)) (inl refl)
    ] refl e

job_says : (j : ℕ) (o : Op) (v : JobReg) → job_in j o ≡ Some v → job_named o ≡ Some j
job_says j (op.Job id version writer withdrawn wait preempt) v e = ap Some (eqb-true id j (when_is_true (id == j) _ v e))
job_says j _ v e = none_some v e

spec_says : (t : ℕ) (o : Op) (v : SpecReg) → spec_in t o ≡ Some v → task_named o ≡ Some t
spec_says t (op.Spec id version writer withdrawn job request prefer) v e = ap Some (eqb-true id t (when_is_true (id == t) _ v e))
spec_says t _ v e = none_some v e

progress_says : (t : ℕ) (o : Op) (v : Progress) → progress_in t o ≡ Some v → task_named o ≡ Some t
progress_says t (op.Progress id attempt phase) v e = ap Some (eqb-true id t (when_is_true (id == t) _ v e))
progress_says t _ v e = none_some v e

incarnation_says : (m : ℕ) (o : Op) (v : ℕ) → incarnation_in m o ≡ Some v → machine_named o ≡ Some m
incarnation_says m (op.Machine id incarnation version writer up slots nic) v e = ap Some (eqb-true id m (when_is_true (id == m) _ v e))
incarnation_says m (op.Report id incarnation number used) v e = ap Some (eqb-true id m (when_is_true (id == m) _ v e))
incarnation_says m _ v e = none_some v e

spot_names : (at : ℕ × ℕ) (c : ℕ) (o : Op) (v : Spot) → spot_in at c o ≡ Some v → (attempt_named o ≡ Some at) × (coordinator_named o ≡ Some c)
spot_names at c (op.Propose id attempt coordinator machine incarnation) v e =
    let all = both_true (id == at.0 && attempt == at.1) (coordinator == c) (when_is_true (id == at.0 && attempt == at.1 && coordinator == c) _ v e) in
    let first = both_true (id == at.0) (attempt == at.1) all.0 in
    let p = eqb-true id at.0 first.0 in
    let q = eqb-true attempt at.1 first.1 in
    (λ i. Some (p i, q i), ap Some (eqb-true coordinator c all.1))
spot_names at c _ v e = none_some v e

pub lookup_job : (S : List Op) (j : ℕ) → lookup nat_cmp j (table_of S).jobs ≡ job S j
lookup_job S j = lookup_table nat_cmp nat_cmp_total nat_same (job S) (filter_map job_named S) j (λ v e. names_member (job_in j) job_named _ j (job_says j) S v e)

task_names : (S : List Op) (t : ℕ) (v : TaskValue) (a : Option SpecReg) (p : Option Progress) → spec S t ≡ a → greatest_progress S t ≡ p → task_value a p ≡ Some v → IsMember t (filter_map task_named S)
task_names S t v None None e g h = none_some v h
task_names S t v None (Some p) e g h = names_member (progress_in t) task_named _ t (progress_says t) S p g
task_names S t v (Some a) p e g h = names_member (spec_in t) task_named _ t (spec_says t) S a e

pub lookup_task : (S : List Op) (t : ℕ) → lookup nat_cmp t (table_of S).tasks ≡ task S t
lookup_task S t = lookup_table nat_cmp nat_cmp_total nat_same (task S) (filter_map task_named S) t (λ v e. task_names S t v (spec S t) (greatest_progress S t) refl refl e)

machine_names : (S : List Op) (m : ℕ) (v : MachineValue) (o : Option ℕ) → incarnation S m ≡ o → option_map (machine_at S m) o ≡ Some v → IsMember m (filter_map machine_named S)
machine_names S m v None e h = none_some v h
machine_names S m v (Some i) e h = names_member (incarnation_in m) machine_named _ m (incarnation_says m) S i e

pub lookup_machine : (S : List Op) (m : ℕ) → lookup nat_cmp m (table_of S).machines ≡ machine S m
lookup_machine S m = lookup_table nat_cmp nat_cmp_total nat_same (machine S) (filter_map machine_named S) m (λ v e. machine_names S m v (incarnation S m) refl e)

pub lookup_entry : (S : List Op) (at : ℕ × ℕ) (c : ℕ) → lookup nat_cmp c (table nat_cmp (filter_map coordinator_named S) (entry S at)) ≡ entry S at c
lookup_entry S at c = lookup_table nat_cmp nat_cmp_total nat_same (entry S at) (filter_map coordinator_named S) c (λ v e. names_member (spot_in at c) coordinator_named _ c (λ o w g. (spot_names at c o w g).1) S v e)

-- some key of the list has a value if the table has a row
has_row : {K V : Type 0} (f : K → Option V) (xs : List K) (e : K × V) (es : List (K × V)) → filter_map (with_value f) xs ≡ e ∷ es → (k : K) × (v : V) × (f k ≡ Some v)
has_row f [] e es h = absurd (let no : ⊥ = cc in no)
has_row f (x ∷ xs) e es h =
    elim (f x) as (λ o. f x ≡ o → cons_option (option_map (λ v. (x, v)) o) (filter_map (with_value f) xs) ≡ e ∷ es → (k : _) × (v : _) × (f k ≡ Some v)) [
      | None ↦ λ _ g. has_row f xs e es g
      | Some v ↦ λ is _. (x, v, is)
    ] refl h

entries_names : (S : List Op) (at : ℕ × ℕ) (v : List (ℕ × Spot)) (t : List (ℕ × Spot)) → table nat_cmp (filter_map coordinator_named S) (entry S at) ≡ t → unless_empty t ≡ Some v → IsMember at (filter_map attempt_named S)
entries_names S at v [] e h = none_some v h
entries_names S at v (x ∷ xs) e h =
    let there = has_row (entry S at) (rising nat_cmp (filter_map coordinator_named S)) x xs e in
    names_member (spot_in at there.0) attempt_named _ at (λ o w g. (spot_names at there.0 o w g).0) S there.1 there.2

pub lookup_entries : (S : List Op) (at : ℕ × ℕ) → lookup attempt_cmp at (table_of S).proposals ≡ entries S at
lookup_entries S at = lookup_table attempt_cmp total_attempt same_attempt (entries S) (filter_map attempt_named S) at (λ v e. entries_names S at v _ refl e)
