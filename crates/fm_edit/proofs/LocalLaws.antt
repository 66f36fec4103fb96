-- What no delta changes: the facts of what is not dirty, and the nodes and arcs between such.
use Rattle.std.specs.Prelude.{◌≡◌, ℕ, ◌+◌, ◌-◌, nat_le, Bool, true, false, cond, not, ◌==◌, ◌&&◌, ◌||◌, is_some, IsTrue, List, [], ◌∷◌, Option, Some, None, option_map, filter, map, count_by, sum_by, max, refl}
use Rattle.std.specs.List.{list_any}
use Rattle.std.specs.Ordering.{nat_cmp}
use Rattle.std.specs.Cmp.{nat_cmp_total}
use Rattle.std.proofs.Common.{sym, ap, ◌∙◌, inl, inr, arith}
use Rattle.std.proofs.lemmas.Bool.{eqb-true}
use Rattle.std.proofs.lemmas.List.Sums.{sum_by-cons}
use Rattle.fm_lattice.specs.laws.ChainLaws.{nat_same}
use Rattle.fm_lattice.specs.Maps.{lookup}
use Rattle.fm_lattice.specs.laws.MapLaws.{same_map, rising_join, lookup_join}
use Rattle.fm_records.specs.declared.records.JobReg.{JobReg}
use Rattle.fm_records.specs.declared.records.SpecReg.{SpecReg}
use Rattle.fm_records.specs.declared.records.Progress.{Progress}
use Rattle.fm_records.specs.declared.records.Spot.{Spot}
use Rattle.fm_records.specs.Options.{when, and_then, only_if, passes, or_else}
use Rattle.fm_records.specs.Sets.{IsMember}
use Rattle.fm_records.specs.Table.{Table, TaskValue}
use Rattle.fm_records.specs.Know.{initial_progress}
use Rattle.fm_records.specs.OpsOfTable.{IsTable}
use Rattle.fm_records.specs.Joined.{table_join}
use Rattle.fm_records.specs.Facts.{head_option, job_of, spec_of, progress_of, attempt_of, used_of, winner_of, is_done, job_stands, live_spec, is_live, open_state, is_present, won_spot, holder_of, holds, held_tasks, request_of, load_of, spare_of}
use Rattle.fm_net.specs.declared.node.Node.{Node}
use Rattle.fm_net.specs.declared.node.Node.TheVariants.{Sink, Unscheduled, Request, Machine, Task}
use Rattle.fm_net.proofs.ListLaws.{entry_member, member_mapped, has_member}
use Rattle.fm_net.specs.Network.{is_held, is_live_of, waits_for, some_task, live_tasks, is_node, capacity_for, room_arc, preferred_arc, arc_of}
use Rattle.fm_policy.specs.Changes.{Keys, changed_tasks, changed_keys}
use Rattle.fm_policy.proofs.ChangeLaws.{join_nothing, task_same, proposal_same}
use Rattle.fm_net.proofs.KeptLists.{lookup_kept, rising_kept}
use Rattle.fm_edit.specs.Dirty.{SameBeyond, has_id, job_of_task, request_of_task, won_machine, prefers, dirty_task, IsDirtyJob, IsDirtyMachine, IsDirtyRequest, MayTurn, MayDiffer}

-- What a delta does not name, it does not change.

not_both : {P : Type 0} (b : Bool) → b ≡ true → b ≡ false → P
not_both true e f = absurd (let no : ⊥ = cc in no)
not_both false e f = absurd (let no : ⊥ = cc in no)

unnamed : {V : Type 0} (keys : List ℕ) (q : ℕ) (o : Option V) → ((v : V) → o ≡ Some v → has_id keys q ≡ true) → has_id keys q ≡ false → o ≡ None
unnamed keys q None named e = refl
unnamed keys q (Some v) named e = not_both (has_id keys q) (named v refl) e

has_named : (keys : List ℕ) (q : ℕ) → IsMember q keys → has_id keys q ≡ true
has_named keys q h = has_member nat_cmp nat_cmp_total nat_same q keys h

module _ (k d : Table) (p : IsTable k) (q : IsTable d) where
  machine_same : (m : ℕ) → has_id (map (λ x. x.0) d.machines) m ≡ false → lookup nat_cmp m (table_join k d).machines ≡ lookup nat_cmp m k.machines
  machine_same m e =
      lookup_join nat_cmp nat_cmp_total nat_same _ m k.machines d.machines p.machines.rising q.machines.rising
      ∙ join_nothing _ _ _ (unnamed (map (λ x. x.0) d.machines) m _ (λ v f. has_named _ m (member_mapped (λ x. x.0) (m, v) d.machines (entry_member nat_cmp nat_same m v d.machines f))) e)

  -- at most the machines that the delta tells of turned
  pub same_beyond : SameBeyond k (table_join k d) (changed_keys d) (changed_keys d).machines
  same_beyond = record {
    jobs = λ j e.
        lookup_join nat_cmp nat_cmp_total nat_same _ j k.jobs d.jobs p.jobs.rising q.jobs.rising
        ∙ join_nothing _ _ _ (unnamed (map (λ x. x.0) d.jobs) j _ (λ v f. has_named _ j (member_mapped (λ x. x.0) (j, v) d.jobs (entry_member nat_cmp nat_same j v d.jobs f))) e);
    tasks = λ t e. task_same d k p q t (λ h. not_both (has_id (changed_tasks d) t) (has_named _ t h) e);
    machines = machine_same;
    present = λ s e. ap (λ o. passes (λ r. true) (only_if (λ r. r.up) (and_then (λ v. v.1.0) o)) && passes (λ i. i == s.incarnation) (option_map (λ v. v.0) o)) (machine_same s.machine e);
    proposals = λ t a e. proposal_same d k p q t (λ h. not_both (has_id (changed_tasks d) t) (has_named _ t h) e) a;
    tasks_rise = p.tasks.rising;
    after_rise = rising_join nat_cmp nat_cmp_total nat_same _ k.tasks d.tasks p.tasks.rising;
  }

-- With no job, no task and no machine that turned, no task is dirty.
none_passes : (o : Option ℕ) → passes (has_id []) o ≡ false
none_passes None = refl
none_passes (Some x) = refl

pub none_dirty : (k after : Table) (keys : Keys) → keys.jobs ≡ [] → keys.tasks ≡ [] → (t : ℕ) → dirty_task k after keys [] t ≡ false
none_dirty k after keys jobs tasks t =
    (λ i.
    has_id (tasks i) t
    || passes (has_id (jobs i)) (job_of_task k t) || passes (has_id (jobs i)) (job_of_task after t)
    || passes (has_id []) (won_machine k t) || passes (has_id []) (won_machine after t))
    ∙ (λ i.
    none_passes (job_of_task k t) i || none_passes (job_of_task after t) i
    || none_passes (won_machine k t) i || none_passes (won_machine after t) i)

-- Kept pairs: what they count and whether there are any.

module _ {X : Type 0} where
  pub counted : (p : X → Bool) (xs : List X) → count_by p xs ≡ sum_by (λ x. 1) (filter p xs)
  counted p [] = refl
  counted p (x ∷ xs) =
      let rest = counted p xs in
      let split : count_by p (x ∷ xs) ≡ cond (p x) 1 0 + count_by p xs = sum_by-cons (λ y. cond (p y) 1 0) x xs in
      split ∙ elim (p x) as (λ b. cond b 1 0 + count_by p xs ≡ sum_by (λ y. 1) (cond b (x ∷ filter p xs) (filter p xs))) [
        | true ↦ ap (λ n. 1 + n) rest ∙ sym (sum_by-cons (λ y. 1) x (filter p xs))
        | false ↦ omega (arith, rest)
      ]

  some_of : List X → Bool
  some_of [] = false
  some_of (x ∷ xs) = true

  any_kept : (p : X → Bool) (xs : List X) → list_any p xs ≡ some_of (filter p xs)
  unfolding some_of
  any_kept p [] = refl
  any_kept p (x ∷ xs) =
      let rest = any_kept p xs in
      elim (p x) as (λ b. (b || list_any p xs) ≡ some_of (cond b (x ∷ filter p xs) (filter p xs))) [ true ↦ refl | false ↦ rest ]

or_false : (a b : Bool) → a || b ≡ false → (a ≡ false) × (b ≡ false)
or_false true b e = absurd (let no : ⊥ = cc in no)
or_false false b e = (refl, e)

when_false : {V : Type 0} (o : Option V) → and_then (λ v. when false v) o ≡ None
when_false None = refl
when_false (Some v) = refl

passed_some : (o : Option ℕ) (m : ℕ) → passes (λ h. h == m) o ≡ true → o ≡ Some m
passed_some None m e = absurd (let no : ⊥ = cc in no)
passed_some (Some h) m e = ap Some (eqb-true h m e)

abbrev local_price : Bool → JobReg → ℕ × ℕ
local_price held job = (1, cond held job.preempt job.wait)

abbrev local_job_arc : Bool → Bool → Option JobReg → Option (ℕ × ℕ)
local_job_arc live held o = cond live (option_map (local_price held) o) None

both : (a b : Bool) → a && b ≡ true → (a ≡ true) × (b ≡ true)
both true b e = (refl, e)
both false b e = absurd (let no : ⊥ = cc in no)

kept_spec : (b : Bool) (r s : SpecReg) → when b r ≡ Some s → Some r ≡ Some s
kept_spec true r s e = e
kept_spec false r s e = absurd (let no : ⊥ = cc in no)

module _ (k after : Table) (keys : Keys) (turned : List ℕ) (same : SameBeyond k after keys turned) where
  abbrev dirty : ℕ → Bool
  dirty = dirty_task k after keys turned

  record Clean (t : ℕ) : Type 0 where
    pub told : has_id keys.tasks t ≡ false
    pub job : passes (has_id keys.jobs) (job_of_task k t) ≡ false
    pub won : passes (has_id turned) (won_machine k t) ≡ false

  clean : (t : ℕ) → dirty t ≡ false → Clean t
  clean t e =
      let told = has_id keys.tasks t in
      let before = passes (has_id keys.jobs) (job_of_task k t) in
      let later = passes (has_id keys.jobs) (job_of_task after t) in
      let won = passes (has_id turned) (won_machine k t) in
      let wins = passes (has_id turned) (won_machine after t) in
      let a = or_false (told || before || later || won) wins e in
      let b = or_false (told || before || later) won a.0 in
      let c = or_false (told || before) later b.0 in
      let d = or_false told before c.0 in
      record { told = d.0; job = d.1; won = b.1 }

  -- A task that is not dirty: its spec, progress and winner, whether it is live, and what holds it.
  module _ (t : ℕ) (e : dirty t ≡ false) where
    pub spec_same : spec_of after t ≡ spec_of k t
    spec_same = ap (and_then (λ v. v.0)) (same.tasks t (clean t e).told)

    pub progress_same : progress_of after t ≡ progress_of k t
    progress_same = ap (λ o. or_else initial_progress (option_map (λ v. v.1) o)) (same.tasks t (clean t e).told)

    stands_same : (s : Option SpecReg) (pr : Progress) → passes (has_id keys.jobs) (option_map (λ s. s.job) s) ≡ false
        → only_if (λ s. not s.withdrawn && job_stands after s.job && not (is_done pr.phase)) s ≡ only_if (λ s. not s.withdrawn && job_stands k s.job && not (is_done pr.phase)) s
    stands_same None pr h = refl
    stands_same (Some s) pr h = ap (λ o. when (not s.withdrawn && passes (λ r. not r.withdrawn) o && not (is_done pr.phase)) s) (same.jobs s.job h)

    pub live_same : live_spec after t ≡ live_spec k t
    live_same =
        (λ i. only_if (λ s. not s.withdrawn && job_stands after s.job && not (is_done (progress_same i).phase)) (spec_same i))
        ∙ stands_same (spec_of k t) (progress_of k t) (clean t e).job

    pub won_same : won_spot after t ≡ won_spot k t
    won_same =
        ap (λ pr. option_map (λ w. w.1) (winner_of after t pr.attempt)) progress_same
        ∙ ap (λ o. option_map (λ w. w.1) (head_option (or_else [] o))) (same.proposals t (attempt_of k t) (clean t e).told)

    present_same : (s : Option Spot) → passes (has_id turned) (option_map (λ s. s.machine) s) ≡ false → only_if (is_present after) s ≡ only_if (is_present k) s
    present_same None h = refl
    present_same (Some s) h = ap (λ b. when b s) (same.present s h)

    pub holder_same : holder_of after t ≡ holder_of k t
    holder_same =
        (λ i. cond (passes (λ s. true) (live_same i)) (option_map (λ s. s.machine) (only_if (is_present after) (won_same i))) None)
        ∙ ap (λ o. cond (is_live k t) (option_map (λ s. s.machine) o) None) (present_same (won_spot k t) (clean t e).won)

  -- the tasks that pass a test are the same if no dirty one passes it
  pub same_kept : (P Q : ℕ → Bool) → ((t : ℕ) → dirty t ≡ false → Q t ≡ P t) → ((t : ℕ) → dirty t ≡ true → (P t ≡ false) × (Q t ≡ false)) → filter (λ e. Q e.0) after.tasks ≡ filter (λ e. P e.0) k.tasks
  same_kept P Q alike none =
      same_map nat_cmp nat_cmp_total nat_same (filter (λ e. Q e.0) after.tasks) (filter (λ e. P e.0) k.tasks)
      (rising_kept nat_cmp nat_cmp_total nat_same (λ (e : ℕ × TaskValue). Q e.0) after.tasks same.after_rise)
      (rising_kept nat_cmp nat_cmp_total nat_same (λ (e : ℕ × TaskValue). P e.0) k.tasks same.tasks_rise)
      (λ t.
      lookup_kept nat_cmp nat_cmp_total nat_same (λ (e : ℕ × TaskValue). Q e.0) t after.tasks same.after_rise
      ∙ elim (dirty t) as (λ b. dirty t ≡ b → and_then (λ v. when (Q t) v) (lookup nat_cmp t after.tasks) ≡ and_then (λ v. when (P t) v) (lookup nat_cmp t k.tasks)) [
        | true ↦ λ e. let no = none t e in rw (no.0, no.1) (when_false (lookup nat_cmp t after.tasks) ∙ sym (when_false (lookup nat_cmp t k.tasks)))
        | false ↦ λ e. let is = alike t e in let record_same = same.tasks t (clean t e).told in λ i. and_then (λ v. when (is i) v) (record_same i)
      ] refl
      ∙ sym (lookup_kept nat_cmp nat_cmp_total nat_same (λ (e : ℕ × TaskValue). P e.0) t k.tasks same.tasks_rise))

  either_false : (x : Bool) → (x ≡ true → ⊥) → x ≡ false
  either_false true h = absurd (h refl)
  either_false false h = refl

  -- A machine that is not dirty holds the same, and has the same load.
  module _ (m : ℕ) (h : ¬ IsDirtyMachine k after keys turned m) where
    told_not : has_id keys.machines m ≡ false
    told_not = either_false (has_id keys.machines m) (λ t. h (inl t))

    pub held_same : held_tasks after m ≡ held_tasks k m
    held_same =
        same_kept (holds k m) (holds after m)
        (λ t e. ap (λ o. passes (λ x. x == m) o) (holder_same t e))
        (λ t e. (either_false (holds k m t) (λ x. h (inr (t, e, inl (passed_some (holder_of k t) m x)))), either_false (holds after m t) (λ x. h (inr (t, e, inr (passed_some (holder_of after t) m x))))))

    pub state_same : open_state after m ≡ open_state k m
    state_same = ap (λ o. only_if (λ r. r.up) (and_then (λ v. v.1.0) o)) (same.machines m told_not)

    pub load_same : load_of after m ≡ load_of k m
    load_same =
        let used : used_of after m ≡ used_of k m = ap (λ o. or_else 0 (option_map (λ r. r.used) (and_then (λ v. v.1.1) o))) (same.machines m told_not) in
        λ i. max (used i) (sum_by (λ e. request_of e.1.0) (held_same i))

    pub spare_same : spare_of after m ≡ spare_of k m
    spare_same = λ i. and_then (λ r. when (nat_le (load_same i) r.nic) (r.nic - load_same i)) (state_same i)

  -- A job that is not dirty has as many live tasks, and the same register.
  is_of : (o : Option SpecReg) (j : ℕ) → passes (λ s. s.job == j) o ≡ true → option_map (λ s. s.job) o ≡ Some j
  is_of None j e = absurd (let no : ⊥ = cc in no)
  is_of (Some s) j e = ap Some (eqb-true s.job j e)

  of_live : (t : Table) (x : ℕ) (o p : Option SpecReg) (b : SpecReg → Bool) → only_if b p ≡ o → (s : SpecReg) → o ≡ Some s → p ≡ Some s
  of_live t x o None b e s f = absurd (let no : ⊥ = (let is : None ≡ Some s = e ∙ f in cc) in no)
  of_live t x o (Some r) b e s f = kept_spec (b r) r s (e ∙ f)

  live_named : (l : Table) (t : ℕ) (s : SpecReg) → live_spec l t ≡ Some s → spec_of l t ≡ Some s
  live_named l t s e = of_live l t (live_spec l t) (spec_of l t) (λ s. not s.withdrawn && job_stands l s.job && not (is_done (progress_of l t).phase)) refl s e

  of_job : (l : Table) (j t : ℕ) → is_live_of l j t ≡ true → job_of_task l t ≡ Some j
  of_job l j t e =
      elim (live_spec l t) as (λ o. live_spec l t ≡ o → passes (λ s. s.job == j) o ≡ true → job_of_task l t ≡ Some j) [
        | None ↦ λ _ h. absurd (let no : ⊥ = cc in no)
        | Some s ↦ λ is h. ap (option_map (λ s. s.job)) (live_named l t s is) ∙ ap Some (eqb-true s.job j h)
      ] refl e

  module _ (j : ℕ) (h : ¬ IsDirtyJob k after keys turned j) where
    pub live_kept : filter (λ e. is_live_of after j e.0) after.tasks ≡ filter (λ e. is_live_of k j e.0) k.tasks
    live_kept =
        same_kept (is_live_of k j) (is_live_of after j)
        (λ t e. ap (λ o. passes (λ s. s.job == j) o) (live_same t e))
        (λ t e. (either_false (is_live_of k j t) (λ x. h (inr (t, e, inl (of_job k j t x)))), either_false (is_live_of after j t) (λ x. h (inr (t, e, inr (of_job after j t x))))))

    pub count_same : live_tasks after j ≡ live_tasks k j
    count_same =
        counted (λ (e : ℕ × TaskValue). is_live_of after j e.0) after.tasks
        ∙ ap (λ es. sum_by (λ e. 1) es) live_kept
        ∙ sym (counted (λ (e : ℕ × TaskValue). is_live_of k j e.0) k.tasks)

    pub job_node_same : some_task (is_live_of after j) after ≡ some_task (is_live_of k j) k
    job_node_same =
        any_kept (λ (e : ℕ × TaskValue). is_live_of after j e.0) after.tasks
        ∙ ap (λ es. some_of es) live_kept
        ∙ sym (any_kept (λ (e : ℕ × TaskValue). is_live_of k j e.0) k.tasks)

  -- A request of no dirty task has the same tasks waiting for it.
  pub waits_same : (r t : ℕ) → dirty t ≡ false → waits_for after r t ≡ waits_for k r t
  waits_same r t e = λ i. passes (λ s. s.request == r) (live_same t e i) && not (passes (λ m. true) (holder_same t e i))

  of_request : (l : Table) (r t : ℕ) → waits_for l r t ≡ true → request_of_task l t ≡ Some r
  of_request l r t e =
      elim (live_spec l t) as (λ o. live_spec l t ≡ o → (passes (λ s. s.request == r) o && not (is_held l t)) ≡ true → request_of_task l t ≡ Some r) [
        | None ↦ λ _ g. absurd (let no : ⊥ = cc in no)
        | Some s ↦ λ is g. ap (option_map (λ s. s.request)) (live_named l t s is) ∙ ap Some (eqb-true s.request r (both (s.request == r) (not (is_held l t)) g).0)
      ] refl e

  module _ (r : ℕ) (h : ¬ IsDirtyRequest k after keys turned r) where
    waiting_kept : filter (λ e. waits_for after r e.0) after.tasks ≡ filter (λ e. waits_for k r e.0) k.tasks
    waiting_kept =
        same_kept (waits_for k r) (waits_for after r)
        (waits_same r)
        (λ t e. (either_false (waits_for k r t) (λ x. h (t, e, inl (of_request k r t x))), either_false (waits_for after r t) (λ x. h (t, e, inr (of_request after r t x)))))

    pub request_node_same : some_task (waits_for after r) after ≡ some_task (waits_for k r) k
    request_node_same =
        any_kept (λ (e : ℕ × TaskValue). waits_for after r e.0) after.tasks
        ∙ ap (λ es. some_of es) waiting_kept
        ∙ sym (any_kept (λ (e : ℕ × TaskValue). waits_for k r e.0) k.tasks)

  -- what does not turn is unchanged
  pub node_same : (n : Node) → ¬ MayTurn k after keys turned n → is_node after n ≡ is_node k n
  node_same Sink h = refl
  node_same (Unscheduled j) h = job_node_same j h
  node_same (Request r) h = request_node_same r h
  node_same (Machine m) h = ap (λ o. passes (λ r. true) o) (state_same m h)
  node_same (Task t) h = ap (λ o. passes (λ s. true) o) (live_same t (either_false (dirty t) h))

  room_same : (r m : ℕ) → ¬ IsDirtyMachine k after keys turned m → room_arc after r m ≡ room_arc k r m
  room_same r m h = λ i. and_then (λ state. and_then (λ spare. when (nat_le r spare) (capacity_for state spare r, r + load_same m h i)) (spare_same m h i)) (state_same m h i)

  pub prefers_same : (t : ℕ) → dirty t ≡ false → (m : ℕ) → prefers after m t ≡ prefers k m t
  prefers_same t e m = λ i. passes (λ s. is_some (lookup nat_cmp m s.prefer)) (live_same t e i) && not (passes (λ m. true) (holder_same t e i))

  abbrev less : ℕ → ℕ × ℕ → ℕ × ℕ
  less credit a = (1, a.1 - credit)

  -- the arc of a task to a machine that it does not prefer stands for its holding alone
  unpreferred : (l : Table) (t m : ℕ) → prefers l m t ≡ false → arc_of l (Task t) (Machine m) ≡ cond (is_held l t) (when (holds l m t) (1, 0)) None
  unpreferred l t m e =
      elim (is_held l t) as (λ b. (passes (λ s. is_some (lookup nat_cmp m s.prefer)) (live_spec l t) && not b) ≡ false → cond b (when (holds l m t) (1, 0)) (and_then (λ s. preferred_arc l s m) (live_spec l t)) ≡ cond b (when (holds l m t) (1, 0)) None) [
        | true ↦ λ _. refl
        | false ↦ λ f. elim (live_spec l t) as (λ o. (passes (λ s. is_some (lookup nat_cmp m s.prefer)) o && true) ≡ false → and_then (λ s. preferred_arc l s m) o ≡ None) [
          | None ↦ λ _. refl
          | Some s ↦ λ g. elim (lookup nat_cmp m s.prefer) as (λ c. (is_some c && true) ≡ false → and_then (λ credit. option_map (less credit) (room_arc l s.request m)) c ≡ None) [ None ↦ λ _. refl | Some c ↦ λ no. absurd (let wrong : ⊥ = cc in wrong) ] g
        ] f
      ] e

  machine_arc_same : (t m : ℕ) → dirty t ≡ false → ¬ (IsDirtyMachine k after keys turned m × IsTrue (prefers k m t)) → arc_of after (Task t) (Machine m) ≡ arc_of k (Task t) (Machine m)
  machine_arc_same t m e h =
      elim (prefers k m t) as (λ b. prefers k m t ≡ b → arc_of after (Task t) (Machine m) ≡ arc_of k (Task t) (Machine m)) [
        | true ↦ λ p.
            let room : (r : ℕ) → room_arc after r m ≡ room_arc k r m = λ r. room_same r m (λ d. h (d, p)) in
            λ i. cond (passes (λ m. true) (holder_same t e i)) (when (passes (λ x. x == m) (holder_same t e i)) (1, 0)) (and_then (λ s. and_then (λ credit. option_map (λ a. (1, a.1 - credit)) (room s.request i)) (lookup nat_cmp m s.prefer)) (live_same t e i))
        | false ↦ λ p.
            unpreferred after t m (prefers_same t e m ∙ p)
            ∙ (λ i. cond (passes (λ m. true) (holder_same t e i)) (when (passes (λ x. x == m) (holder_same t e i)) (1, 0)) None)
            ∙ sym (unpreferred k t m p)
      ] refl

  task_arc_same : (t : ℕ) → dirty t ≡ false → (b : Node) → ¬ MayDiffer k after keys turned (Task t) b → arc_of after (Task t) b ≡ arc_of k (Task t) b
  task_arc_same t e (Request r) h = ap (λ w. when w (1, 0)) (waits_same r t e)
  task_arc_same t e (Machine m) h = machine_arc_same t m e (λ x. h (inr x))
  task_arc_same t e (Unscheduled j) h =
      (λ i. local_job_arc (passes (λ s. s.job == j) (live_same t e i)) (passes (λ m. true) (holder_same t e i)) (job_of after j))
      ∙ elim (is_live_of k j t) as (λ b. is_live_of k j t ≡ b → local_job_arc b (is_held k t) (job_of after j) ≡ local_job_arc b (is_held k t) (job_of k j)) [
        | true ↦ λ live.
            let named : job_of_task k t ≡ Some j = of_job k j t live in
            let told : has_id keys.jobs j ≡ false = ap (λ o. passes (has_id keys.jobs) o) (sym named) ∙ (clean t e).job in
            ap (λ o. local_job_arc true (is_held k t) o) (same.jobs j told)
        | false ↦ λ _. refl
      ] refl
  task_arc_same t e _ h = refl

  -- the arc of a request that stays a node, or stays none, to a machine that is not dirty
  pub request_arc_same : (r m : ℕ) → is_node after (Request r) ≡ is_node k (Request r) → ¬ IsDirtyMachine k after keys turned m → arc_of after (Request r) (Machine m) ≡ arc_of k (Request r) (Machine m)
  request_arc_same r m e h =
      λ i. cond (e i) (room_same r m h i) None

  -- an arc between what does not differ is unchanged
  pub arc_same : (a b : Node) → ¬ MayDiffer k after keys turned a b → arc_of after a b ≡ arc_of k a b
  arc_same (Task t) (Machine m) h = task_arc_same t (either_false (dirty t) (λ x. h (inl x))) (Machine m) h
  arc_same (Task t) Sink h = task_arc_same t (either_false (dirty t) h) Sink h
  arc_same (Task t) (Unscheduled j) h = task_arc_same t (either_false (dirty t) h) (Unscheduled j) h
  arc_same (Task t) (Request r) h = task_arc_same t (either_false (dirty t) h) (Request r) h
  arc_same (Task t) (Task u) h = task_arc_same t (either_false (dirty t) h) (Task u) h
  arc_same (Request r) (Machine m) h = request_arc_same r m (request_node_same r (λ x. h (inl x))) (λ x. h (inr x))
  arc_same (Machine m) Sink h = ap (option_map (λ state. (state.slots, 0))) (state_same m h)
  arc_same (Unscheduled j) Sink h = λ i. when (job_node_same j h i) (count_same j h i, 0)
  arc_same _ _ h = refl
