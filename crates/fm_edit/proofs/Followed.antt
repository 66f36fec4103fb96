-- From what the steps of following do to what was touched and what is remembered.
use Rattle.std.proofs.Common.{◌≡◌, ◌∙◌, ◌⊎◌, inl, inr, ℕ, ◌<◌, ◌^◌, Bool, true, false, cond, List, [], ◌∷◌, ◌++◌, append_assoc, Option, Some, None, refl, sym, ap, subst, eq-eqb}
use Rattle.std.specs.Prelude.{◌&&◌, ◌||◌, ◌==◌, not, is_some, IsSome, option_map, map, filter}
use Rattle.std.proofs.lemmas.Bool.{eqb-true, ltb-true}
use Rattle.std.specs.Ordering.{nat_cmp, is_eq}
use Rattle.std.specs.Cmp.{Equal-is}
use Rattle.std.specs.List.{list_any}
use Rattle.std.specs.BTreeMap.{get}
use Rattle.fm_lattice.specs.laws.ChainLaws.{nat_same}
use Rattle.fm_lattice.specs.Maps.{lookup}
use Rattle.fm_records.specs.declared.records.SpecReg.{SpecReg}
use Rattle.fm_records.specs.declared.records.MachineReg.{MachineReg}
use Rattle.fm_records.specs.declared.records.Spot.{Spot}
use Rattle.fm_records.specs.Options.{when, and_then, only_if, or_else, passes}
use Rattle.fm_records.proofs.LookupLaws.{both_true}
use Rattle.fm_records.specs.Orders.{attempt_cmp}
use Rattle.fm_records.specs.Rising.{Rises}
use Rattle.fm_records.specs.Table.{Table, TaskValue, MachineValue}
use Rattle.fm_records.specs.Ranges.{CanBe, all_in_range}
use Rattle.fm_records.specs.OpsOfTable.{task_ops, entry_ops}
use Rattle.fm_records.proofs.RangeLaws.{task_in_range, entries_in_range}
use Rattle.fm_records.specs.Know.{initial_progress}
use Rattle.fm_records.specs.Joined.{table_join}
use Rattle.fm_records.proofs.JoinedLaws.{table_laws}
use Rattle.fm_records.specs.Facts.{head_option, job_of, spec_of, live_spec, attempt_of, won_spot, is_present}
use Rattle.fm_net.specs.declared.node.Node.{Node}
use Rattle.fm_net.specs.declared.node.Node.TheVariants.{Unscheduled, Request, Machine, Task}
use Rattle.fm_net.specs.Nodes.{node_cmp, ends_cmp}
use Rattle.fm_net.specs.Net.{Net, has_node}
use Rattle.fm_net.specs.Network.{is_node, net_of}
use Rattle.fm_net.proofs.NetworkLaws.{passes_some, only_if_some, is_network_of}
use Rattle.fm_net.specs.Touched.{Touches}
use Rattle.fm_policy.specs.Changes.{Keys, changed_keys}
use Rattle.fm_edit.specs.declared.task_index.TaskIndex.{TaskIndex}
use Rattle.fm_edit.specs.declared.affected.Touched.{Touched}
use Rattle.fm_edit.specs.Dirty.{SameBeyond, AreDirtyTasks, turned_in, has_id, dirty_task, prefers, job_of_task, won_machine}
use Rattle.fm_edit.proofs.LocalLaws.{same_beyond}
use Rattle.fm_edit.specs.CacheModel.{Sight, sight_of, seen_in}
use Rattle.fm_edit.specs.declared.record_cache.RecordCache.{RecordCache}
use Rattle.fm_edit.specs.CacheUpdate.{turns, standing, same_standing}
use Rattle.fm_edit.specs.inner.CachedValues.{values_at}
use Rattle.fm_edit.specs.TaskIndex.{lists, sum_in}
use Rattle.fm_edit.specs.inner.TaskIndexParts.{ListsAtOne}
use Rattle.fm_edit.specs.EditorState.{none_out, Counts}
use Rattle.fm_edit.specs.inner.CacheFacts.{node_shown}
use Rattle.fm_edit.specs.inner.Affected.{has_touched, AffectedGrows, AffectsEnd, TouchesTask}
use Rattle.fm_edit.specs.inner.Completing.{Completes}
use Rattle.fm_edit.proofs.Completed.{both_ways, grows_then}
use Rattle.fm_edit.proofs.Covered.{touches}
use Rattle.fm_edit.proofs.ShownLaws.{node_is}
use Rattle.fm_edit.proofs.Sums.{counts_stay}

or_false : (a b : Bool) → (a || b) ≡ false → a ≡ false
or_false true b e = e
or_false false b e = refl

or_later : (a b : Bool) → (a || b) ≡ false → b ≡ false
or_later true b e = absurd (let no : ⊥ = cc in no)
or_later false b e = e

either_of : {P : Type 0} (a a2 b b2 : Bool) → a2 ≡ a → b2 ≡ b → (a || a2 || b || b2) ≡ true → (a ≡ true → P) → (b ≡ true → P) → P
either_of true a2 b b2 e f h p q = p refl
either_of false a2 true b2 e f h p q = q refl
either_of false a2 false b2 e f h p q = absurd (let no : false ≡ true = sym (λ i. (false || e i || false || f i)) ∙ h in let wrong : ⊥ = cc in wrong)

second_true : (a b c d e : Bool) → b ≡ true → (a || b || c || d || e) ≡ true
second_true true b c d e h = refl
second_true false b c d e h = ap (λ z. z || c || d || e) h

fourth_true : (a b c d e : Bool) → d ≡ true → (a || b || c || d || e) ≡ true
fourth_true true b c d e h = refl
fourth_true false true c d e h = refl
fourth_true false false true d e h = refl
fourth_true false false false d e h = ap (λ z. z || e) h

alike : (a b : Bool) → (a ≡ true → b ≡ true) → (b ≡ true → a ≡ true) → a ≡ b
alike true b f g = sym (f refl)
alike false true f g = g refl
alike false false f g = refl

named_by : {V : Type 0} (f : V → ℕ) (o : Option V) (x : ℕ) → passes (λ v. f v == x) o ≡ true → option_map f o ≡ Some x
named_by f None x h = absurd (let no : ⊥ = cc in no)
named_by f (Some v) x h = ap Some (eqb-true (f v) x h)

-- Which machines turned.
standing_same : (a b : Option ℕ) → not (same_standing a b) ≡ false → a ≡ b
standing_same None None e = refl
standing_same None (Some b) e = absurd (let no : ⊥ = cc in no)
standing_same (Some a) None e = absurd (let no : ⊥ = cc in no)
standing_same (Some a) (Some b) e = elim (a == b) as (λ c. (a == b) ≡ c → not c ≡ false → Some a ≡ Some b) [ true ↦ λ f _. ap Some (eqb-true a b f) | false ↦ λ _ g. absurd (let no : ⊥ = cc in no) ] refl e

module _ (f now : ℕ → Option MachineValue) where
  abbrev turned_of : List ℕ → List ℕ
  turned_of ms = map (λ v. v.0) (filter (λ v. turns (f v.0) v.1) (values_at now ms))

  unturned : (ms : List ℕ) (m : ℕ) → has_id ms m ≡ true → has_id (turned_of ms) m ≡ false → standing (f m) ≡ standing (now m)
  unturned [] m h e = absurd (let no : ⊥ = cc in no)
  unturned (x ∷ ms) m h e =
      let rest = unturned ms m in
      elim (is_eq (nat_cmp m x)) as (λ b. is_eq (nat_cmp m x) ≡ b → (b || has_id ms m) ≡ true → standing (f m) ≡ standing (now m)) [
        | true ↦ λ t _.
            let same : m ≡ x = nat_same m x ((Equal-is (nat_cmp m x)).0 t) in
            elim (turns (f x) (now x)) as (λ b. turns (f x) (now x) ≡ b → has_id (map (λ v. v.0) (cond b ((x, now x) ∷ filter (λ v. turns (f v.0) v.1) (values_at now ms)) (filter (λ v. turns (f v.0) v.1) (values_at now ms)))) m ≡ false → standing (f m) ≡ standing (now m)) [
              | true ↦ λ _ g. both_ways (is_eq (nat_cmp m x)) t (or_false (is_eq (nat_cmp m x)) _ g)
              | false ↦ λ u _. subst (λ z. standing (f z) ≡ standing (now z)) (sym same) (standing_same (standing (f x)) (standing (now x)) u)
            ] refl e
        | false ↦ λ t g.
            rest g (elim (turns (f x) (now x)) as (λ b. has_id (map (λ v. v.0) (cond b ((x, now x) ∷ filter (λ v. turns (f v.0) v.1) (values_at now ms)) (filter (λ v. turns (f v.0) v.1) (values_at now ms)))) m ≡ false → has_id (turned_of ms) m ≡ false) [
              | true ↦ λ w. or_later (is_eq (nat_cmp m x)) _ w
              | false ↦ λ w. w
            ] e)
      ] refl h

  as_kept : (ms : List ℕ) → turned_of ms ≡ filter (λ m. turns (f m) (now m)) ms
  as_kept [] = refl
  as_kept (m ∷ ms) =
      let rest = as_kept ms in
      elim (turns (f m) (now m)) as (λ b. map (λ v. v.0) (cond b ((m, now m) ∷ filter (λ v. turns (f v.0) v.1) (values_at now ms)) (filter (λ v. turns (f v.0) v.1) (values_at now ms))) ≡ cond b (m ∷ filter (λ q. turns (f q) (now q)) ms) (filter (λ q. turns (f q) (now q)) ms)) [
        | true ↦ ap (λ xs. m ∷ xs) rest
        | false ↦ rest
      ]

present_by : (o : Option MachineValue) (i : ℕ) → (passes (λ (r : MachineReg). true) (only_if (λ r. r.up) (and_then (λ (v : MachineValue). v.1.0) o)) && passes (λ j. j == i) (option_map (λ (v : MachineValue). v.0) o)) ≡ passes (λ j. j == i) (standing o)
present_by None i = refl
present_by (Some v) i = elim v.1.0 as (λ (s : Option MachineReg). (passes (λ r. true) (only_if (λ r. r.up) s) && (v.0 == i)) ≡ passes (λ j. j == i) (and_then (λ r. when r.up v.0) s)) [
  | None ↦ refl
  | Some r ↦ elim r.up as (λ b. (passes (λ (w : MachineReg). true) (when b r) && (v.0 == i)) ≡ passes (λ j. j == i) (when b v.0)) [ true ↦ refl | false ↦ refl ]
]

-- What was seen is the table, record by record.
pub seen_as : (s : RecordCache) (k now : Table) → k ≡ now
    → ((q : ℕ) → get nat_cmp s.jobs q ≡ job_of k q) → ((q : ℕ) → get nat_cmp s.tasks q ≡ lookup nat_cmp q k.tasks)
    → ((q : ℕ) → get nat_cmp s.machines q ≡ lookup nat_cmp q k.machines) → ((q : ℕ) → get nat_cmp s.spots q ≡ won_spot k q)
    → seen_in s ≡ sight_of now
seen_as s k now is jobs tasks machines spots =
    let here : seen_in s ≡ sight_of k = λ i. record { job = λ q. jobs q i; task = λ q. tasks q i; machine = λ q. machines q i; spot = λ q. spots q i } in
    here ∙ ap sight_of is

pub five : {X : Type 0} (a b c d e : List X) → (((a ++ b) ++ c) ++ d) ++ e ≡ a ++ (b ++ (c ++ (d ++ e)))
five a b c d e = simp append_assoc

-- The tasks of a table have ids of 128 bits.
module _ (k : Table) (can : CanBe k) where
  task_small : (t : ℕ) (v : TaskValue) → lookup nat_cmp t k.tasks ≡ Some v → t < 2 ^ 128
  task_small t v f =
      let all = task_in_range k can t v f in
      elim v.0 as (λ (o : Option SpecReg). all_in_range (task_ops (t, (o, v.1))) ≡ true → t < 2 ^ 128) [
        | None ↦ λ h. ltb-true t (2 ^ 128) (both_true _ _ (both_true _ _ (both_true _ _ h).0).0).0
        | Some r ↦ λ h. ltb-true t (2 ^ 128) (both_true _ _ (both_true _ _ (both_true _ _ (both_true _ _ (both_true _ _ h).0).0).0).0).0
      ] all

  spec_small : (t : ℕ) (s : SpecReg) → spec_of k t ≡ Some s → t < 2 ^ 128
  spec_small t s e = elim (lookup nat_cmp t k.tasks) as (λ o. lookup nat_cmp t k.tasks ≡ o → and_then (λ (v : TaskValue). v.0) o ≡ Some s → t < 2 ^ 128) [
    | None ↦ λ _ f. absurd (let no : ⊥ = cc in no)
    | Some v ↦ λ f _. task_small t v f
  ] refl e

  entries_small : (t a : ℕ) (es : List (ℕ × Spot)) (s : Spot) → all_in_range (entry_ops ((t, a), es)) ≡ true → option_map (λ w. w.1) (head_option es) ≡ Some s → t < 2 ^ 128
  entries_small t a [] s h f = absurd (let no : ⊥ = cc in no)
  entries_small t a (e ∷ es) s h f = ltb-true t (2 ^ 128) (both_true _ _ (both_true _ _ (both_true _ _ (both_true _ _ (both_true _ _ h).0).0).0).0).0

  spot_small : (t : ℕ) (s : Spot) → won_spot k t ≡ Some s → t < 2 ^ 128
  spot_small t s e = elim (lookup attempt_cmp (t, attempt_of k t) k.proposals) as (λ o. lookup attempt_cmp (t, attempt_of k t) k.proposals ≡ o → option_map (λ w. w.1) (head_option (or_else [] o)) ≡ Some s → t < 2 ^ 128) [
    | None ↦ λ _ f. absurd (let no : ⊥ = cc in no)
    | Some es ↦ λ f g. entries_small t (attempt_of k t) es s (entries_in_range k can (t, attempt_of k t) es f) g
  ] refl e

  -- and so has a task that prefers a machine
  prefers_small : (m t : ℕ) → prefers k m t ≡ true → t < 2 ^ 128
  prefers_small m t h =
      let live = passes_some (λ s. is_some (lookup nat_cmp m s.prefer)) (live_spec k t) (both_true _ _ h).0 in
      spec_small t live.0 (only_if_some _ (spec_of k t) live.0 live.1).0

module _ (k d after : Table) (keys : Keys) (can_k : CanBe k) (can_d : CanBe d) (joined : after ≡ table_join k d) (is : keys ≡ changed_keys d) where
  pub after_can_be : CanBe after
  after_can_be = subst CanBe (sym joined) (table_laws.closed k d can_k can_d)

  abbrev pub turned : List ℕ
  turned = turned_of (λ m. lookup nat_cmp m k.machines) (λ m. lookup nat_cmp m after.machines) keys.machines

  pub base : SameBeyond k after keys keys.machines
  base = subst (λ (z : Keys). SameBeyond k after z z.machines) (sym is) (subst (λ z. SameBeyond k z (changed_keys d) (changed_keys d).machines) (sym joined) (same_beyond k d can_k.table can_d.table))

  presence : (s : Spot) → has_id turned s.machine ≡ false → is_present after s ≡ is_present k s
  presence s e =
      elim (has_id keys.machines s.machine) as (λ b. has_id keys.machines s.machine ≡ b → is_present after s ≡ is_present k s) [
        | true ↦ λ told.
            present_by (lookup nat_cmp s.machine after.machines) s.incarnation
            ∙ ap (passes (λ j. j == s.incarnation)) (sym (unturned (λ m. lookup nat_cmp m k.machines) (λ m. lookup nat_cmp m after.machines) keys.machines s.machine told e))
            ∙ sym (present_by (lookup nat_cmp s.machine k.machines) s.incarnation)
        | false ↦ λ told. base.present s told
      ] refl

  -- only the machines that turned count as such
  pub beyond : SameBeyond k after keys turned
  beyond = record { jobs = base.jobs; tasks = base.tasks; machines = base.machines; proposals = base.proposals; present = presence; tasks_rise = base.tasks_rise; after_rise = base.after_rise }

  pub spots_as : (t : ℕ) → has_id keys.tasks t ≡ false → won_spot after t ≡ won_spot k t
  spots_as t e =
      ap (λ (o : Option TaskValue). option_map (λ w. w.1) (head_option (or_else [] (lookup attempt_cmp (t, (or_else initial_progress (option_map (λ v. v.1) o)).attempt) after.proposals)))) (base.tasks t e)
      ∙ ap (λ es. option_map (λ w. w.1) (head_option (or_else [] es))) (base.proposals t (attempt_of k t) e)

  won_as : (t : ℕ) → has_id keys.tasks t ≡ false → won_machine after t ≡ won_machine k t
  won_as t e = ap (option_map (λ s. s.machine)) (spots_as t e)

  pub turned_is : (s : Sight) (vs : List (ℕ × Option MachineValue)) → s ≡ sight_of k → vs ≡ values_at (λ m. lookup nat_cmp m after.machines) keys.machines → map (λ v. v.0) (filter (λ v. turns (s.machine v.0) v.1) vs) ≡ turned
  turned_is s vs e f = λ i. map (λ v. v.0) (filter (λ v. turns ((e i).machine v.0) v.1) (f i))

  -- which tasks are dirty is the same for each table that is seen alike
  turned_are : turned ≡ turned_in k after keys
  turned_are = as_kept (λ m. lookup nat_cmp m k.machines) (λ m. lookup nat_cmp m after.machines) keys.machines

  pub dirty_as_seen : (l : Table) → sight_of l ≡ sight_of k → (ds : List ℕ) → Rises nat_cmp ds → ((t : ℕ) → has_id ds t ≡ dirty_task k after keys turned t) → AreDirtyTasks l after keys ds
  dirty_as_seen l e ds rise each = record {
    rise = rise;
    each = λ t.
        each t
        ∙ ap (λ ms. dirty_task k after keys ms t) turned_are
        ∙ sym (λ i.
        let s = e i in
        let turned_now = filter (λ m. turns (s.machine m) (lookup nat_cmp m after.machines)) keys.machines in
        has_id keys.tasks t
        || passes (has_id keys.jobs) (option_map (λ r. r.job) (and_then (λ v. v.0) (s.task t))) || passes (has_id keys.jobs) (job_of_task after t)
        || passes (has_id turned_now) (option_map (λ p. p.machine) (s.spot t)) || passes (has_id turned_now) (won_machine after t));
  }

  -- The tasks that are found through the index are all that are dirty.
  module _ (x : TaskIndex) (counts : Counts none_out k x) (ds : List ℕ)
      (told : (t : ℕ) → has_id keys.tasks t ≡ true → has_id ds t ≡ true)
      (of_jobs : (j t : ℕ) → has_id keys.jobs j ≡ true → t < 2 ^ 128 → lists x (Unscheduled j) t ≡ true → has_id ds t ≡ true)
      (of_machines : (m t : ℕ) → has_id turned m ≡ true → t < 2 ^ 128 → lists x (Machine m) t ≡ true → has_id ds t ≡ true) where
    by_job : (t : ℕ) → passes (has_id keys.jobs) (job_of_task k t) ≡ true → has_id ds t ≡ true
    by_job t h =
        elim (spec_of k t) as (λ o. spec_of k t ≡ o → passes (has_id keys.jobs) (option_map (λ s. s.job) o) ≡ true → has_id ds t ≡ true) [
          | None ↦ λ _ g. absurd (let no : ⊥ = cc in no)
          | Some s ↦ λ e g. of_jobs s.job t g (spec_small k can_k t s e) (counts.listed (Unscheduled s.job) t ∙ ap (λ o. passes (λ r. r.job == s.job) o && true) e ∙ ap (λ b. b && true) (eq-eqb s.job s.job refl))
        ] refl h

    by_machine : (t : ℕ) → passes (has_id turned) (won_machine k t) ≡ true → has_id ds t ≡ true
    by_machine t h =
        elim (won_spot k t) as (λ o. won_spot k t ≡ o → passes (has_id turned) (option_map (λ s. s.machine) o) ≡ true → has_id ds t ≡ true) [
          | None ↦ λ _ g. absurd (let no : ⊥ = cc in no)
          | Some s ↦ λ e g. of_machines s.machine t g (spot_small k can_k t s e) (counts.listed (Machine s.machine) t ∙ ap (λ o. passes (λ p. p.machine == s.machine) o && true) e ∙ ap (λ b. b && true) (eq-eqb s.machine s.machine refl))
        ] refl h

    pub all_found : (t : ℕ) → dirty_task k after keys turned t ≡ true → has_id ds t ≡ true
    all_found t h =
        elim (has_id keys.tasks t) as (λ b. has_id keys.tasks t ≡ b → (b || passes (has_id keys.jobs) (job_of_task k t) || passes (has_id keys.jobs) (job_of_task after t) || passes (has_id turned) (won_machine k t) || passes (has_id turned) (won_machine after t)) ≡ true → has_id ds t ≡ true) [
          | true ↦ λ e _. told t e
          | false ↦ λ e g.
              let jobs : job_of_task after t ≡ job_of_task k t = ap (λ o. option_map (λ s. s.job) (and_then (λ (v : TaskValue). v.0) o)) (base.tasks t e) in
              let winners : won_machine after t ≡ won_machine k t = won_as t e in
              either_of (passes (has_id keys.jobs) (job_of_task k t)) (passes (has_id keys.jobs) (job_of_task after t)) (passes (has_id turned) (won_machine k t)) (passes (has_id turned) (won_machine after t))
              (ap (passes (has_id keys.jobs)) jobs) (ap (passes (has_id turned)) winners) g (by_job t) (by_machine t)
        ] refl h

  -- And they are dirty.
  module _ (x : TaskIndex) (counts : Counts none_out k x) where
    of_job : (j t : ℕ) → lists x (Unscheduled j) t ≡ true → job_of_task k t ≡ Some j
    of_job j t h = named_by (λ (s : SpecReg). s.job) (spec_of k t) j ((both_true _ _ (sym (counts.listed (Unscheduled j) t) ∙ h)).0)

    of_machine : (m t : ℕ) → lists x (Machine m) t ≡ true → won_machine k t ≡ Some m
    of_machine m t h = named_by (λ (s : Spot). s.machine) (won_spot k t) m ((both_true _ _ (sym (counts.listed (Machine m) t) ∙ h)).0)

    is_dirty : (t : ℕ) → (has_id keys.tasks t ≡ true) ⊎ (ListsAtOne x Unscheduled keys.jobs t ⊎ ListsAtOne x Machine turned t) → dirty_task k after keys turned t ≡ true
    is_dirty t h =
        let told = has_id keys.tasks t in
        let before = passes (has_id keys.jobs) (job_of_task k t) in
        let later = passes (has_id keys.jobs) (job_of_task after t) in
        let won = passes (has_id turned) (won_machine k t) in
        let wins = passes (has_id turned) (won_machine after t) in
        elim h [
          | inl told_of ↦ ap (λ b. b || before || later || won || wins) told_of
          | inr listed ↦ elim listed [
            | inl job ↦
                second_true told before later won wins (ap (passes (has_id keys.jobs)) (of_job job.0 t job.2) ∙ job.1)
            | inr machine ↦
                fourth_true told before later won wins (ap (passes (has_id turned)) (of_machine machine.0 t machine.2) ∙ machine.1)
          ]
        ]

    pub only_dirty : (ds : List ℕ) → ((t : ℕ) → dirty_task k after keys turned t ≡ true → has_id ds t ≡ true)
        → ((t : ℕ) → has_id ds t ≡ true → (has_id keys.tasks t ≡ true) ⊎ (ListsAtOne x Unscheduled keys.jobs t ⊎ ListsAtOne x Machine turned t))
        → (t : ℕ) → has_id ds t ≡ dirty_task k after keys turned t
    only_dirty ds all only t = alike (has_id ds t) (dirty_task k after keys turned t) (λ h. is_dirty t (only t h)) (all t)

  -- All that was touched, and what counts in the end.
  module _ (ds : List ℕ) (all : (t : ℕ) → dirty_task k after keys turned t ≡ true → has_id ds t ≡ true) where
    pub counts_on : (x : TaskIndex) → Counts (has_id ds) k x → Counts (has_id ds) after x
    counts_on = counts_stay k after keys turned beyond (has_id ds) all

    leads_on : (x y : Touched) → AffectedGrows x y → (t : ℕ) (o : Option Node) → AffectsEnd x t o → AffectsEnd y t o
    leads_on x y g t o l n e = let h = l n e in (g.nodes n h.0, g.pairs (Task t) n h.1)

    touches_on : (x y : Touched) → AffectedGrows x y → (s : Sight) (t : ℕ) → TouchesTask s t x → TouchesTask s t y
    touches_on x y g s t h = record { node = g.nodes (Task t) h.node; job = leads_on x y g t _ h.job; request = leads_on x y g t _ h.request; holder = leads_on x y g t _ h.holder; preferred = λ m p. g.pairs (Task t) (Machine m) (h.preferred m p) }

    pub all_touched : (s0 s1 : Sight) → s0 ≡ sight_of k → s1 ≡ sight_of after → (x : TaskIndex) → Counts none_out after x → (net : Net) → net ≡ net_of k
        → (t1 t2 t3 t4 t5 : Touched) → AffectedGrows t1 t2 → AffectedGrows t2 t3 → AffectedGrows t3 t4
        → ((j : ℕ) → has_id keys.jobs j ≡ true → has_touched t1 (Unscheduled j) ≡ true)
        → ((m : ℕ) → has_id keys.machines m ≡ true → has_touched t2 (Machine m) ≡ true)
        → ((t : ℕ) → has_id ds t ≡ true → TouchesTask s0 t t3)
        → ((t : ℕ) → has_id ds t ≡ true → TouchesTask s1 t t4)
        → Completes s1 x net t4 t5
        → Rises node_cmp t5.nodes.keys → Rises ends_cmp t5.pairs.keys
        → Touches net (net_of after) t5.nodes.keys t5.pairs.keys
    all_touched s0 s1 e0 e1 x counts net net_is t1 t2 t3 t4 t5 g12 g23 g34 jobs machines before later whole r1 r2 =
        let g24 = grows_then t2 t3 t4 g23 g34 in
        let back : (n : Node) → has_touched t5 n ≡ true → has_touched t4 n ≡ true = λ n h. ap (λ ks. list_any (λ m. is_eq (node_cmp n m)) ks.keys) (sym whole.nodes) ∙ h in
        let node : (n : Node) → node_shown s1 (sum_in x) n ≡ is_node after n = λ n. (λ i. node_shown (e1 i) (λ z. counts.sums z i) n) ∙ node_is after n in
        let stood : (n : Node) → has_node net n ≡ is_node k n = λ n. ap (λ z. has_node z n) net_is ∙ (is_network_of k).each_node n in
        subst (λ z. Touches z (net_of after) t5.nodes.keys t5.pairs.keys) (sym net_is)
        (touches k after keys turned beyond t5 (record {
          jobs = λ j h. whole.grows.nodes (Unscheduled j) (g24.nodes (Unscheduled j) (g12.nodes (Unscheduled j) (jobs j h)));
          machines = λ m h. whole.grows.nodes (Machine m) (g24.nodes (Machine m) (machines m h));
          before = λ t h. touches_on t4 t5 whole.grows (sight_of k) t (touches_on t3 t4 g34 (sight_of k) t (subst (λ s. TouchesTask s t t3) e0 (before t (all t h))));
          later = λ t h. touches_on t4 t5 whole.grows (sight_of after) t (subst (λ s. TouchesTask s t t4) e1 (later t (all t h)));
          sinks_of_jobs = λ j h. whole.sinks (Unscheduled j) (back (Unscheduled j) h) refl;
          sinks_of_machines = λ m h. whole.sinks (Machine m) (back (Machine m) h) refl;
          touched_places = λ q m hq hm. whole.touched_places q m (back (Request q) hq) (back (Machine m) hm);
          waiting_places = λ q m w hm. whole.waiting_places q m (node (Request q) ∙ w) (back (Machine m) hm);
          preferring_places = λ m t p hm. whole.preferring m t (prefers_small after after_can_be m t p) (counts.preferred m t ∙ ap (λ b. b && true) p) (back (Machine m) hm);
          turned_places = λ q m hq apart there. whole.turned_places q m (back (Request q) hq) (λ e. apart (sym (stood (Request q)) ∙ e ∙ node (Request q))) (subst (λ (s : Sight). IsSome (s.machine m)) (sym e1) there);
          nodes_rise = r1;
          pairs_rise = r2;
        }))
