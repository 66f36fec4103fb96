-- The limits that the fields of known records keep.
use Rattle.std.proofs.Common.{◌≡◌, ℕ, Bool, true, false, cond, Option, Some, None, refl}
use Rattle.std.specs.Prelude.{◌&&◌, is_none}
use Rattle.std.specs.Option.{IfSome}
use Rattle.std.specs.Ordering.{nat_cmp}
use Rattle.std.proofs.lemmas.Bool.{leb-true}
use Rattle.fm_lattice.specs.Maps.{lookup}
use Rattle.fm_records.specs.declared.ops.Field.{Field}
use Rattle.fm_records.specs.declared.records.JobReg.{JobReg}
use Rattle.fm_records.specs.declared.records.SpecReg.{SpecReg}
use Rattle.fm_records.specs.declared.records.MachineReg.{MachineReg}
use Rattle.fm_records.specs.Table.{Table, TaskValue, MachineValue}
use Rattle.fm_records.specs.OpsOfTable.{job_op, spec_op, machine_op, task_ops, machine_ops}
use Rattle.fm_records.specs.Ranges.{CanBe, in_range, all_in_range}
use Rattle.fm_records.proofs.RangeLaws.{job_in_range, task_in_range, machine_in_range}
use Rattle.fm_records.specs.Options.{and_then, only_if}
use Rattle.fm_records.specs.Facts.{job_of, spec_of, live_spec, machine_state, open_state}
use Rattle.fm_know.specs.Limits.{JobWithin, SpecWithin, StateWithin}

and_left : (a b : Bool) → a && b ≡ true → a ≡ true
and_left true b h = refl
and_left false b h = h

and_right : (a b : Bool) → a && b ≡ true → b ≡ true
and_right true b h = h
and_right false b h = absurd (let no : ⊥ = cc in no)

-- no fault if there are three tests
three : (a b c : Bool) (x y z : Field) → is_none (cond a (cond b (cond c None (Some x)) (Some y)) (Some z)) ≡ true → (a ≡ true) × (b ≡ true) × (c ≡ true)
three true true true x y z h = (refl, refl, refl)
three true true false x y z h = absurd (let no : ⊥ = cc in no)
three true false c x y z h = absurd (let no : ⊥ = cc in no)
three false b c x y z h = absurd (let no : ⊥ = cc in no)

job_within : (j : ℕ) (r : JobReg) → in_range (job_op j r) ≡ true → JobWithin r
job_within j r h = let t = three _ _ _ _ _ _ (and_right _ _ h) in record { wait = leb-true _ _ t.1; preempt = leb-true _ _ t.2 }

spec_within : (t : ℕ) (r : SpecReg) → in_range (spec_op t r) ≡ true → SpecWithin r
spec_within t r h = let p = three _ _ _ _ _ _ (and_right _ _ h) in record { request = leb-true _ _ p.1; prefer = p.2 }

state_within : (m i : ℕ) (r : MachineReg) → in_range (machine_op m i r) ≡ true → StateWithin r
state_within m i r h =
    let t = three _ _ _ _ _ _ (and_right _ _ h) in
    record { slots_above = leb-true _ _ (and_left _ _ t.1); slots_within = leb-true _ _ (and_right _ _ t.1); nic = leb-true _ _ t.2 }

module _ (k : Table) (is : CanBe k) where
  pub job_limits : (j : ℕ) → IfSome (job_of k j) JobWithin
  job_limits j = elim (job_of k j) as (λ o. job_of k j ≡ o → IfSome o JobWithin) [ None ↦ λ _. tt | Some r ↦ λ e. job_within j r (job_in_range k is j r e) ] refl

  of_task : (t : ℕ) (v : TaskValue) → all_in_range (task_ops (t, v)) ≡ true → IfSome v.0 SpecWithin
  of_task t (None, p) h = tt
  of_task t (Some s, p) h = spec_within t s (and_left _ _ h)

  pub spec_limits : (t : ℕ) → IfSome (spec_of k t) SpecWithin
  spec_limits t = elim (lookup nat_cmp t k.tasks) as (λ o. lookup nat_cmp t k.tasks ≡ o → IfSome (and_then (λ v. v.0) o) SpecWithin) [ None ↦ λ _. tt | Some v ↦ λ e. of_task t v (task_in_range k is t v e) ] refl

  of_machine : (m : ℕ) (v : MachineValue) → all_in_range (machine_ops (m, v)) ≡ true → IfSome v.1.0 StateWithin
  of_machine m (i, (None, r)) h = tt
  of_machine m (i, (Some s, r)) h = state_within m i s (and_left _ _ h)

  state_limits : (m : ℕ) → IfSome (machine_state k m) StateWithin
  state_limits m = elim (lookup nat_cmp m k.machines) as (λ o. lookup nat_cmp m k.machines ≡ o → IfSome (and_then (λ v. v.1.0) o) StateWithin) [ None ↦ λ _. tt | Some v ↦ λ e. of_machine m v (machine_in_range k is m v e) ] refl

  kept : {A : Type 0} (P : A → Type 0) (test : A → Bool) (o : Option A) → IfSome o P → IfSome (only_if test o) P
  kept P test None h = tt
  kept P test (Some a) h = elim (test a) as (λ b. IfSome (cond b (Some a) None) P) [ true ↦ h | false ↦ tt ]

  pub live_limits : (t : ℕ) → IfSome (live_spec k t) SpecWithin
  live_limits t = kept SpecWithin _ (spec_of k t) (spec_limits t)

  pub open_limits : (m : ℕ) → IfSome (open_state k m) StateWithin
  open_limits m = kept StateWithin _ (machine_state k m) (state_limits m)
