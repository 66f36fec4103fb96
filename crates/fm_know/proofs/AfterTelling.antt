-- What becomes of a table that is told the next job, machine state or attempt.
use Rattle.std.proofs.Common.{◌≡◌, ◌≤◌, ◌<◌, ◌==◌, ℕ, ◌+◌, Bool, true, false, cond, [], ◌∷◌, Option, Some, None, option_map, Ok, refl, sym, ap, ◌∙◌, arith, eq-eqb}
use Rattle.std.specs.Option.{ok_or, IfSome}
use Rattle.std.specs.Ordering.{nat_cmp, ordering_then, is_lt}
use Rattle.std.specs.Cmp.{nat_cmp_total, nat_cmp_is}
use Rattle.std.specs.declared.cmp.Ordering.{Ordering}
use Rattle.std.specs.declared.cmp.Ordering.TheVariants.{Less, Equal, Greater}
use Rattle.std.proofs.lemmas.Cmp.{ranked}
use Rattle.fm_lattice.specs.Chains.{by_order}
use Rattle.fm_lattice.specs.laws.ChainLaws.{nat_same}
use Rattle.fm_lattice.specs.Joins.{max_join, option_join}
use Rattle.fm_lattice.specs.Maps.{lookup}
use Rattle.fm_lattice.specs.laws.MapLaws.{lookup_join}
use Rattle.fm_records.specs.declared.ops.Op.{Op}
use Rattle.fm_records.specs.declared.ops.Op.TheVariants as op
use Rattle.fm_records.specs.declared.ops.Phase.TheVariants.{Pending}
use Rattle.fm_records.specs.declared.records.JobReg.{JobReg}
use Rattle.fm_records.specs.declared.records.MachineReg.{MachineReg}
use Rattle.fm_records.specs.declared.records.Progress.{Progress}
use Rattle.fm_records.specs.Options.{when, and_then, or_else, passes}
use Rattle.fm_records.specs.Orders.{job_cmp, machine_cmp, report_cmp, progress_cmp}
use Rattle.fm_records.specs.Table.{Table, TaskValue, MachineValue}
use Rattle.fm_records.specs.Know.{initial_progress, table_of, job_in, state_in, progress_in, job, task, machine, machine_at, incarnation, state_at}
use Rattle.fm_records.proofs.LookupLaws.{lookup_job, lookup_task, lookup_machine}
use Rattle.fm_records.proofs.RangeLaws.{know_table}
use Rattle.fm_records.specs.OpsOfTable.{IsTable}
use Rattle.fm_records.specs.Facts.{job_of, machine_state, incarnation_of, progress_of, attempt_of}
use Rattle.fm_records.specs.Joined.{table_join, task_join, machine_join}
use Rattle.fm_know.specs.Mutators.{next_version, job_version, state_version}

pub some_of : {A E : Type 0} (o : Option A) (e : E) (a : A) → Ok a ≡ ok_or o e → o ≡ Some a
some_of None e a h = cc
some_of (Some b) e a h = let same : a ≡ b = cc in ap Some (sym same)

-- the version after a known one is greater
above : (v w : ℕ) (b : Bool) → when b (v + 1) ≡ Some w → v < w
above v w true h = let same : v + 1 ≡ w = cc in omega arith
above v w false h = cc

greater : (v w : ℕ) → v < w → nat_cmp w v ≡ Greater
greater v w h = sym (nat_cmp_is w v Greater h)

first_greater : (o p : Ordering) → o ≡ Greater → ordering_then o p ≡ Greater
first_greater o p e = ap (λ z. ordering_then z p) e

-- the greater of two is the second, if that is above the first
later : {R : Type 0} (cmp : R → R → Ordering) (r s : R) → cmp s r ≡ Greater → max_join cmp r s ≡ s
later cmp r s e = ap (λ o. cond (is_lt o) r s) e

-- and so is the register whose version is next, whatever of it is known
module _ {R : Type 0} (cmp : R → R → Ordering) (version : R → ℕ) (by_version : (s t : R) → version s < version t → cmp t s ≡ Greater) where
  register_after : (r : R) (o : Option R) → next_version (option_map version o) ≡ Some (version r) → option_join (max_join cmp) o (Some r) ≡ Some r
  register_after r None h = refl
  register_after r (Some s) h = ap Some (later cmp s r (by_version s r (above (version s) (version r) _ h)))

jobs_by_version : (s t : JobReg) → s.version < t.version → job_cmp t s ≡ Greater
jobs_by_version s t h = first_greater _ _ (greater s.version t.version h)

states_by_version : (s t : MachineReg) → s.version < t.version → machine_cmp t s ≡ Greater
states_by_version s t h = first_greater _ _ (greater s.version t.version h)

-- the incarnation of a machine's value is the present one, and the state is known
record IsTold (i : ℕ) (r : MachineReg) (o : Option MachineValue) : Type 0 where
  incarnation : option_map (λ v. v.0) o ≡ Some i
  state : and_then (λ v. v.1.0) o ≡ Some r

machine_after : (i : ℕ) (r : MachineReg) (o : Option MachineValue) → next_version
    (cond (passes (λ p. p == i) (option_map (λ v. v.0) o)) (option_map (λ s. s.version) (and_then (λ v. v.1.0) o)) None) ≡ Some
    r.version → IfSome (option_map (λ v. v.0) o) (λ p. p ≤ i) → IsTold i r
    (option_join machine_join o (Some (i, (Some r, None))))
machine_after i r None h below = record { incarnation = refl; state = refl }
machine_after i r (Some (p, (s, report))) h below =
    elim (nat_cmp p i) as (λ c. nat_cmp p i ≡ c → IsTold i r (Some (by_order c (i, (Some r, None)) (p, (option_join (max_join machine_cmp) s (Some r), option_join (max_join report_cmp) report None)) (p, (s, report))))) [
      | Less ↦ λ _. record { incarnation = refl; state = refl }
      | Equal ↦ λ e.
          let same : p ≡ i = nat_same p i e in
          let test : (p == i) ≡ true = eq-eqb p i same in
          let there : next_version (option_map (λ s. s.version) s) ≡ Some r.version = ap (λ b. next_version (cond b (option_map (λ s. s.version) s) None)) (sym test) ∙ h in
          record { incarnation = ap Some same; state = register_after machine_cmp (λ s. s.version) states_by_version r s there }
      | Greater ↦ λ e. let over : i < p = ranked p i Greater (sym e) in absurd (omega arith)
    ] refl

module _ (k : Table) (form : IsTable k) where
  pub job_told : (id v writer : ℕ) (withdrawn : Bool) (wait preempt : ℕ) → next_version (job_version k id) ≡ Some v → job_of (table_join k (table_of (op.Job id v writer withdrawn wait preempt ∷ []))) id ≡ job_in id (op.Job id v writer withdrawn wait preempt)
  job_told id v writer withdrawn wait preempt h =
      let o = op.Job id v writer withdrawn wait preempt in
      let r : JobReg = record { version = v; writer = writer; withdrawn = withdrawn; wait = wait; preempt = preempt } in
      let itself : (id == id) ≡ true = eq-eqb id id refl in
      let one : job (o ∷ []) id ≡ Some r = rw itself refl in
      let said : job_in id o ≡ Some r = rw itself refl in
      lookup_join nat_cmp nat_cmp_total nat_same (max_join job_cmp) id k.jobs (table_of (o ∷ [])).jobs form.jobs.rising (know_table (o ∷ [])).jobs.rising
      ∙ ap (option_join (max_join job_cmp) (job_of k id)) (lookup_job (o ∷ []) id ∙ one)
      ∙ register_after job_cmp (λ r. r.version) jobs_by_version r (job_of k id) h
      ∙ sym said

  progress_after : (p : Progress) (o : Option TaskValue) → (or_else initial_progress (option_map (λ v. v.1) o)).attempt < p.attempt → or_else initial_progress (option_map (λ v. v.1) (option_join task_join o (Some (None, p)))) ≡ p
  progress_after p None h = refl
  progress_after p (Some v) h = later progress_cmp v.1 p (first_greater _ _ (greater v.1.attempt p.attempt h))

  pub attempt_told : (id a : ℕ) → attempt_of k id < a → Some (progress_of (table_join k (table_of (op.Progress id a Pending ∷ []))) id) ≡ progress_in id (op.Progress id a Pending)
  attempt_told id a h =
      let o = op.Progress id a Pending in
      let p : Progress = record { attempt = a; phase = Pending } in
      let itself : (id == id) ≡ true = eq-eqb id id refl in
      let one : task (o ∷ []) id ≡ Some (None, p) = rw itself refl in
      let said : progress_in id o ≡ Some p = rw itself refl in
      let found =
      lookup_join nat_cmp nat_cmp_total nat_same task_join id k.tasks (table_of (o ∷ [])).tasks form.tasks.rising (know_table (o ∷ [])).tasks.rising
      ∙ ap (option_join task_join (lookup nat_cmp id k.tasks)) (lookup_task (o ∷ []) id ∙ one) in
      ap (λ z. Some (or_else initial_progress (option_map (λ v. v.1) z))) found
      ∙ ap Some (progress_after p (lookup nat_cmp id k.tasks) h)
      ∙ sym said

  module _ (id i v writer : ℕ) (up : Bool) (slots nic : ℕ) where
    abbrev told_op : Op
    told_op = op.Machine id i v writer up slots nic

    abbrev register : MachineReg
    register = record { version = v; writer = writer; up = up; slots = slots; nic = nic }

    machine_found : lookup nat_cmp id (table_join k (table_of (told_op ∷ []))).machines ≡ option_join machine_join (lookup nat_cmp id k.machines) (Some (i, (Some register, None)))
    machine_found =
        let itself : (id == id) ≡ true = eq-eqb id id refl in
        let present : (i == i) ≡ true = eq-eqb i i refl in
        let named : incarnation (told_op ∷ []) id ≡ Some i = rw itself refl in
        let said : state_at (told_op ∷ []) id i ≡ Some register = rw (itself, present) refl in
        let one : machine (told_op ∷ []) id ≡ Some (i, (Some register, None)) = ap (option_map (machine_at (told_op ∷ []) id)) named ∙ (λ j. Some (i, (said j, None))) in
        lookup_join nat_cmp nat_cmp_total nat_same machine_join id k.machines (table_of (told_op ∷ [])).machines form.machines.rising (know_table (told_op ∷ [])).machines.rising
        ∙ ap (option_join machine_join (lookup nat_cmp id k.machines)) (lookup_machine (told_op ∷ []) id ∙ one)

    module _ (h : next_version (state_version k id i) ≡ Some v) (below : IfSome (incarnation_of k id) (λ p. p ≤ i)) where
      pub state_told : machine_state (table_join k (table_of (told_op ∷ []))) id ≡ state_in id i told_op
      state_told =
          let itself : (id == id) ≡ true = eq-eqb id id refl in
          let present : (i == i) ≡ true = eq-eqb i i refl in
          let said : state_in id i told_op ≡ Some register = rw (itself, present) refl in
          ap (and_then (λ v. v.1.0)) machine_found ∙ (machine_after i register (lookup nat_cmp id k.machines) h below).state ∙ sym said

      pub incarnation_told : incarnation_of (table_join k (table_of (told_op ∷ []))) id ≡ Some i
      incarnation_told = ap (option_map (λ v. v.0)) machine_found ∙ (machine_after i register (lookup nat_cmp id k.machines) h below).incarnation
