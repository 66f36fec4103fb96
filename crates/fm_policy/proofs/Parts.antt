-- The nodes and arcs of a table's network, one by one.
use Rattle.std.proofs.Common.{◌≡◌, ℕ, ◌-◌, Bool, true, false, cond, List, Option, Some, None, refl, sym, ◌∙◌, ap, eq-eqb}
use Rattle.std.specs.Prelude.{◌==◌, ◌&&◌, not, option_map, is_some}
use Rattle.std.specs.Ordering.{nat_cmp}
use Rattle.fm_lattice.specs.Maps.{lookup}
use Rattle.fm_records.specs.declared.records.JobReg.{JobReg}
use Rattle.fm_records.specs.declared.records.SpecReg.{SpecReg}
use Rattle.fm_records.specs.declared.records.MachineReg.{MachineReg}
use Rattle.fm_records.specs.Options.{when, and_then, passes}
use Rattle.fm_records.specs.Table.{Table}
use Rattle.fm_records.specs.Facts.{job_of, live_spec, open_state, is_open, holder_of, spare_of}
use Rattle.fm_net.specs.declared.node.Node.TheVariants.{Sink, Unscheduled, Request, Machine, Task}
use Rattle.fm_net.specs.Network.{is_node, is_held, is_live_of, waits_for, live_tasks, place_arc, room_arc, preferred_arc, arc_of}
use Rattle.fm_net.proofs.NetworkLaws.{mapped_from}
use Rattle.fm_policy.specs.inner.Inputs.{asked_of}

both_there : {A B C : Type 0} (f : A → B → C) (o : Option A) (p : Option B) → is_some (and_then (λ a. option_map (f a) p) o) ≡ true → (is_some o ≡ true) × (is_some p ≡ true)
both_there f None p h = absurd (let no : ⊥ = cc in no)
both_there f (Some a) None h = absurd (let no : ⊥ = cc in no)
both_there f (Some a) (Some b) h = (refl, refl)

module _ (k : Table) where
  -- the spec of a task that is live by a test of its spec
  pub spec_tested : (test : SpecReg → Bool) (t : ℕ) → passes test (live_spec k t) ≡ true → (s : SpecReg) × (live_spec k t ≡ Some s) × (test s ≡ true)
  spec_tested test t h = elim (live_spec k t) as (λ o. passes test o ≡ true → (s : SpecReg) × (o ≡ Some s) × (test s ≡ true)) [ None ↦ λ no. absurd (let no2 : ⊥ = cc in no2) | Some s ↦ λ yes. (s, refl, yes) ] h

  -- a request leads into a machine only if some task waits for it and the machine is open
  pub place_needs : (r m : ℕ) → is_some (arc_of k (Request r) (Machine m)) ≡ true → (is_node k (Request r) ≡ true) × (is_open k m ≡ true)
  place_needs r m h =
      elim (is_node k (Request r)) as (λ b. is_some (cond b (and_then (λ state. and_then (place_arc k r m state) (spare_of k m)) (open_state k m)) None) ≡ true → (b ≡ true) × (is_open k m ≡ true)) [
        | true ↦ λ yes. (refl, elim (open_state k m) as (λ o. is_some (and_then (λ state. and_then (place_arc k r m state) (spare_of k m)) o) ≡ true → passes (λ r. true) o ≡ true) [ None ↦ λ no. absurd (let no2 : ⊥ = cc in no2) | Some s ↦ λ _. refl ] yes)
        | false ↦ λ no. absurd (let no2 : ⊥ = cc in no2)
      ] h

  same : (n : ℕ) → (n == n) ≡ true
  same n = eq-eqb n n refl

  pub live_of_job : (t : ℕ) (s : SpecReg) → live_spec k t ≡ Some s → is_live_of k s.job t ≡ true
  live_of_job t s e = ap (passes (λ r. r.job == s.job)) e ∙ same s.job

  pub waits_of : (t : ℕ) (s : SpecReg) → live_spec k t ≡ Some s → holder_of k t ≡ None → waits_for k s.request t ≡ true
  waits_of t s e h = (λ i. passes (λ r. r.request == s.request) (e i) && not (passes (λ m. true) (h i))) ∙ ap (λ b. b && true) (same s.request)

  pub machine_to_sink : (m : ℕ) (s : MachineReg) → open_state k m ≡ Some s → arc_of k (Machine m) Sink ≡ Some (s.slots, 0)
  machine_to_sink m s e = ap (option_map (λ state. (state.slots, 0))) e

  pub job_to_sink : (j : ℕ) → is_node k (Unscheduled j) ≡ true → arc_of k (Unscheduled j) Sink ≡ Some (live_tasks k j, 0)
  job_to_sink j h = ap (λ b. when b (live_tasks k j, 0)) h

  -- what a task that is not held prefers has a credit, and room for it
  pub preferred_needs : (t m : ℕ) (s : SpecReg) → live_spec k t ≡ Some s → holder_of k t ≡ None → is_some (arc_of k (Task t) (Machine m)) ≡ true → (is_some (lookup nat_cmp m s.prefer) ≡ true) × (is_some (room_arc k s.request m) ≡ true)
  preferred_needs t m s e h some =
      let there : is_some (preferred_arc k s m) ≡ true = (λ i. is_some (cond (passes (λ n. true) (sym h i)) (when (passes (λ n. n == m) (sym h i)) (1, 0)) (and_then (λ s. preferred_arc k s m) (sym e i)))) ∙ some in
      both_there (λ credit (a : ℕ × ℕ). (1, a.1 - credit)) (lookup nat_cmp m s.prefer) (room_arc k s.request m) there

  pub task_to_request : (t : ℕ) (s : SpecReg) → live_spec k t ≡ Some s → holder_of k t ≡ None → arc_of k (Task t) (Request s.request) ≡ Some (1, 0)
  task_to_request t s e h = ap (λ b. when b (1, 0)) (waits_of t s e h)

  pub task_to_job : (t : ℕ) (s : SpecReg) (job : JobReg) → live_spec k t ≡ Some s → job_of k s.job ≡ Some job → arc_of k (Task t) (Unscheduled s.job) ≡ Some (1, cond (is_held k t) job.preempt job.wait)
  task_to_job t s job e h = λ i. cond (live_of_job t s e i) (option_map (λ r. (1, cond (is_held k t) r.preempt r.wait)) (h i)) None

  pub task_to_holder : (t m : ℕ) → holder_of k t ≡ Some m → arc_of k (Task t) (Machine m) ≡ Some (1, 0)
  task_to_holder t m held =
      ap (λ o. cond (passes (λ h. true) o) (when (passes (λ h. h == m) o) (1, 0)) (and_then (λ s. preferred_arc k s m) (live_spec k t))) held
      ∙ ap (λ b. when b (1, 0)) (eq-eqb m m refl)

  -- a task that is not held, to a machine, by what it asks for
  pub task_to_preferred : (t m : ℕ) (asked : ℕ × List (ℕ × ℕ)) → option_map asked_of (live_spec k t) ≡ Some asked → holder_of k t ≡ None
      → and_then (λ credit. option_map (λ (a : ℕ × ℕ). (1, a.1 - credit)) (room_arc k asked.0 m)) (lookup nat_cmp m asked.1) ≡ arc_of k (Task t) (Machine m)
  task_to_preferred t m asked is free =
      let spec = mapped_from asked_of (live_spec k t) asked is in
      sym (
      (λ i. cond (passes (λ n. true) (free i)) (when (passes (λ n. n == m) (free i)) (1, 0)) (and_then (λ s. preferred_arc k s m) (spec.1 i)))
      ∙ ap (λ (x : ℕ × List (ℕ × ℕ)). and_then (λ credit. option_map (λ (a : ℕ × ℕ). (1, a.1 - credit)) (room_arc k x.0 m)) (lookup nat_cmp m x.1)) spec.2)
