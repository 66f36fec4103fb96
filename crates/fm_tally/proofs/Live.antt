-- Tasks and machines whose records are at hand are what the table tells of them.
use Rattle.std.proofs.Common.{◌≡◌, ◌∙◌, sym, ap, refl, ℕ, Bool, true, false, cond, not, List, Option, Some, None, option_map}
use Rattle.std.specs.Prelude.{◌==◌, ◌&&◌, ◌-◌, nat_le, max, sum_by, count_by}
use Rattle.std.specs.Ordering.{nat_cmp}
use Rattle.fm_lattice.specs.Maps.{lookup}
use Rattle.fm_records.specs.declared.records.JobReg.{JobReg}
use Rattle.fm_records.specs.declared.records.SpecReg.{SpecReg}
use Rattle.fm_records.specs.declared.records.MachineReg.{MachineReg}
use Rattle.fm_records.specs.declared.records.Progress.{Progress}
use Rattle.fm_records.specs.declared.records.Report.{Report}
use Rattle.fm_records.specs.declared.records.Spot.{Spot}
use Rattle.fm_records.specs.Options.{and_then, only_if, passes, or_else, when}
use Rattle.fm_records.specs.Know.{initial_progress}
use Rattle.fm_records.specs.Table.{Table, TaskValue, MachineValue}
use Rattle.fm_records.specs.Facts.{is_done, job_of, job_stands, progress_of, is_present, winner_of, won_spot, holder_of, holds, request_of, held_tasks, open_state, load_of, used_of}
use Rattle.fm_know.specs.RecordFacts.{open_state_in, spare_left}
use Rattle.fm_net.proofs.NetworkLaws.{came_from, mapped_from}
use Rattle.fm_tally.specs.declared.holdings.Holdings.{Holdings}
use Rattle.fm_tally.specs.declared.tally.LiveTask.{LiveTask}
use Rattle.fm_tally.specs.declared.tally.OpenMachine.{OpenMachine}
use Rattle.fm_tally.specs.inner.Holdings.{names_open_machine, placed_by, nothing_on, requests_in, tasks_in, AreHoldings}
use Rattle.fm_tally.specs.Tallies.{has_any, unfinished_spec, task_at, open_machine_at}
use Rattle.fm_tally.specs.inner.TallyParts.{live_task_of, task_by, requests_by, tasks_by, open_by}
use Rattle.fm_tally.specs.Unfinished.{unfinished_at}
use Rattle.fm_tally.specs.declared.unfinished.UnfinishedTask.{UnfinishedTask}
use Rattle.fm_tally.proofs.Held.{held_is}

inside : {A : Type 0} (a b : A) → Some a ≡ Some b → a ≡ b
inside a b e = cc

-- the machine of a spot where it is there
placed_is : (hs : Holdings) (k : Table) → ((s : Spot) → names_open_machine hs s ≡ is_present k s) → (o : Option Spot) → and_then (placed_by hs) o ≡ option_map (λ s. s.machine) (only_if (is_present k) o)
placed_is hs k there None = refl
placed_is hs k there (Some s) = ap (λ b. when b s.machine) (there s) ∙ elim (is_present k s) as (λ b. when b s.machine ≡ option_map (λ (s : Spot). s.machine) (when b s)) [ true ↦ refl | false ↦ refl ]

-- an open machine with the state
abbrev open_at : ℕ → ℕ → ℕ → Option MachineReg → Option OpenMachine
open_at load held sum o = option_map (λ (state : MachineReg). record { slots = state.slots; load = load; spare = and_then (λ (r : MachineReg). when (nat_le load r.nic) (r.nic - load)) o; held = held; requests = sum }) o

opened : (a b h g r s : ℕ) (o : Option MachineReg) → a ≡ b → h ≡ g → r ≡ s → option_map (λ (state : MachineReg). record { slots = state.slots; load = a; spare = spare_left state.nic a; held = h; requests = r }) o ≡ open_at b g s o
opened a b h g r s None load held sum = refl
opened a b h g r s (Some state) load held sum = λ i. Some record { slots = state.slots; load = load i; spare = when (nat_le (load i) state.nic) (state.nic - load i); held = held i; requests = sum i }

module _ (k : Table) where
  abbrev entry : Option ℕ → SpecReg → JobReg → LiveTask
  entry holder s job = record { job = s.job; request = s.request; price = cond (passes (λ m. true) holder) job.preempt job.wait; holder = holder; prefers = has_any s.prefer }

  abbrev stands : JobReg → Bool
  stands r = not r.withdrawn

  abbrev live_of : Option SpecReg → Progress → Option SpecReg
  live_of o p = only_if (λ (s : SpecReg). not s.withdrawn && job_stands k s.job && not (is_done p.phase)) o

  abbrev held_of : Option ℕ → Option SpecReg → Option ℕ
  held_of h live = cond (passes (λ (s : SpecReg). true) live) h None

  -- what the table tells of a task with the record, if h is the machine that holds it where it is live
  abbrev told : Option ℕ → Option SpecReg → Progress → Option LiveTask
  told h o p = and_then (λ (s : SpecReg). option_map (entry (held_of h (live_of o p)) s) (job_of k s.job)) (live_of o p)

  shift : (f : SpecReg → Option JobReg → Option LiveTask) (b : Bool) (s : SpecReg) → and_then (λ (z : SpecReg). f z (job_of k z.job)) (when b s) ≡ and_then (λ (z : SpecReg). f z (job_of k s.job)) (when b s)
  shift f true s = refl
  shift f false s = refl

  core : (w d : Bool) (jo : Option JobReg) (h : Option ℕ) (s : SpecReg)
      → and_then (λ (z : SpecReg). option_map (entry h z) (only_if stands jo)) (when (not w && not d) s) ≡ and_then (λ (z : SpecReg). option_map (entry (held_of h (when (not w && passes stands jo && not d) s)) z) jo) (when (not w && passes stands jo && not d) s)
  core true d jo h s = refl
  core false true None h s = refl
  core false true (Some r) h s = elim (r.withdrawn) as (λ b. None ≡ and_then (λ (z : SpecReg). option_map (entry (held_of h (when (not b && false) s)) z) (Some r)) (when (not b && false) s)) [ true ↦ refl | false ↦ refl ]
  core false false None h s = refl
  core false false (Some r) h s = elim (r.withdrawn) as (λ b. option_map (entry h s) (when (not b) r) ≡ and_then (λ (z : SpecReg). option_map (entry (held_of h (when (not b && true) s)) z) (Some r)) (when (not b && true) s)) [ true ↦ refl | false ↦ refl ]

  abbrev by_spec : Option ℕ → SpecReg → Option LiveTask
  by_spec h s = option_map (entry h s) (only_if stands (job_of k s.job))

  same_task : (h : Option ℕ) (o : Option SpecReg) (p : Progress) → and_then (by_spec h) (unfinished_spec (o, p)) ≡ told h o p
  same_task h None p = refl
  same_task h (Some s) p =
      let live = live_of (Some s) p in
      shift (λ z jo. option_map (entry h z) (only_if stands jo)) (not s.withdrawn && not (is_done p.phase)) s
      ∙ core s.withdrawn (is_done p.phase) (job_of k s.job) h s
      ∙ sym (shift (λ z jo. option_map (entry (held_of h live) z) jo) (not s.withdrawn && job_stands k s.job && not (is_done p.phase)) s)

  abbrev won_by : ℕ → Progress → Option ℕ
  won_by t p = option_map (λ s. s.machine) (only_if (is_present k) (option_map (λ w. w.1) (winner_of k t p.attempt)))

  -- an unfinished task
  pub task_is : (hs : Holdings) (t : ℕ) (u : UnfinishedTask) → ((s : Spot) → names_open_machine hs s ≡ is_present k s) → unfinished_at k t ≡ Some u
      → task_by k.jobs (and_then (placed_by hs) u.spot) u ≡ task_at k t
  task_is hs t u there known =
      let spot = won_spot k t in
      let spec = mapped_from _ (and_then unfinished_spec (lookup nat_cmp t k.tasks)) u known in
      let row = came_from _ (lookup nat_cmp t k.tasks) spec.0 spec.1 in
      let won = won_by t (progress_of k t) in
      sym (ap (λ (w : UnfinishedTask). task_by k.jobs (and_then (placed_by hs) w.spot) w) spec.2)
      ∙ ap (λ h. by_spec h spec.0) (placed_is hs k there spot)
      ∙ sym (ap (and_then (by_spec won)) row.2)
      ∙ same_task won row.0.0 row.0.1
      ∙ sym (ap (λ o. told won (and_then (λ (w : TaskValue). w.0) o) (or_else initial_progress (option_map (λ (w : TaskValue). w.1) o))) row.1)

  -- what an unfinished task counts for a machine
  module _ (t : ℕ) (u : UnfinishedTask) (js : List (ℕ × JobReg)) (h : Option ℕ) where
    counted : (o : Option LiveTask) → o ≡ task_by js h u → o ≡ task_at k t → (m : ℕ) → (requests_by o m ≡ cond (holds k m t) u.request 0) × (tasks_by o m ≡ cond (holds k m t) 1 0)
    counted None made is m =
        let none : None ≡ holder_of k t = ap (and_then (λ (l : LiveTask). l.holder)) is ∙ held_is k t in
        (ap (λ h. cond (passes (λ n. n == m) h) u.request 0) none, ap (λ h. cond (passes (λ n. n == m) h) 1 0) none)
    counted (Some l) made is m =
        let holder : l.holder ≡ holder_of k t = ap (and_then (λ (l : LiveTask). l.holder)) is ∙ held_is k t in
        let from = mapped_from (λ (job : JobReg). live_task_of u job h) (only_if stands (lookup nat_cmp u.job js)) l (sym made) in
        let request : l.request ≡ u.request = ap (λ (l : LiveTask). l.request) (sym from.2) in
        (ap (λ h. cond (passes (λ n. n == m) h) l.request 0) holder ∙ ap (λ r. cond (holds k m t) r 0) request, ap (λ h. cond (passes (λ n. n == m) h) 1 0) holder)

    pub requests_are : (o : Option LiveTask) → o ≡ task_by js h u → o ≡ task_at k t → (m : ℕ) → requests_by o m ≡ cond (holds k m t) u.request 0
    requests_are o made is m = (counted o made is m).0

    pub tasks_are : (o : Option LiveTask) → o ≡ task_by js h u → o ≡ task_at k t → (m : ℕ) → tasks_by o m ≡ cond (holds k m t) 1 0
    tasks_are o made is m = (counted o made is m).1

  -- Before any task is counted.

  abbrev open_in : MachineValue → Bool
  open_in v = passes (λ (r : MachineReg). true) (only_if (λ (r : MachineReg). r.up) v.1.0)

  up_is : (o : Option MachineReg) → passes (λ (r : MachineReg). r.up) o ≡ passes (λ (r : MachineReg). true) (only_if (λ (r : MachineReg). r.up) o)
  up_is None = refl
  up_is (Some r) = elim (r.up) as (λ b. b ≡ passes (λ (r : MachineReg). true) (when b r)) [ true ↦ refl | false ↦ refl ]

  module _ (hs : Holdings) (nothing : (m : ℕ) → lookup nat_cmp m hs.by_machine ≡ option_map nothing_on (lookup nat_cmp m k.machines)) where
    pub there_is : (s : Spot) → names_open_machine hs s ≡ is_present k s
    there_is s =
        ap (passes (λ h. h.is_open && h.incarnation == s.incarnation)) (nothing s.machine)
        ∙ elim (lookup nat_cmp s.machine k.machines) as (λ o. passes (λ h. h.is_open && h.incarnation == s.incarnation) (option_map nothing_on o) ≡ passes (λ (r : MachineReg). true) (only_if (λ (r : MachineReg). r.up) (and_then (λ (v : MachineValue). v.1.0) o)) && passes (λ i. i == s.incarnation) (option_map (λ (v : MachineValue). v.0) o)) [
          | None ↦ refl
          | Some v ↦ ap (λ b. b && v.0 == s.incarnation) (up_is v.1.0)
        ]

    pub no_requests : (m : ℕ) → requests_in hs m ≡ 0
    no_requests m = ap (λ o. or_else 0 (option_map (λ h. h.requests) o)) (nothing m) ∙ elim (lookup nat_cmp m k.machines) as (λ o. or_else 0 (option_map (λ h. h.requests) (option_map nothing_on o)) ≡ 0) [ None ↦ refl | Some v ↦ refl ]

    pub no_tasks : (m : ℕ) → tasks_in hs m ≡ 0
    no_tasks m = ap (λ o. or_else 0 (option_map (λ h. h.tasks) o)) (nothing m) ∙ elim (lookup nat_cmp m k.machines) as (λ o. or_else 0 (option_map (λ h. h.tasks) (option_map nothing_on o)) ≡ 0) [ None ↦ refl | Some v ↦ refl ]

  -- a machine with the record that is known
  pub machine_is : (hs : Holdings) → AreHoldings k hs → (m : ℕ) (v : MachineValue) (requests tasks : ℕ) → requests ≡ requests_in hs m → tasks ≡ tasks_in hs m → lookup nat_cmp m k.machines ≡ Some v → open_by v requests tasks ≡ open_machine_at k m
  machine_is hs are m v requests tasks r n found =
      let used : or_else 0 (option_map (λ (r : Report). r.used) v.1.1) ≡ used_of k m = sym (ap (λ o. or_else 0 (option_map (λ (r : Report). r.used) (and_then (λ (w : MachineValue). w.1.1) o))) found) in
      let all : requests ≡ sum_by (λ e. request_of e.1.0) (held_tasks k m) = r ∙ are.requests m in
      let load : max (or_else 0 (option_map (λ (r : Report). r.used) v.1.1)) requests ≡ load_of k m = λ i. max (used i) (all i) in
      let held : tasks ≡ count_by (λ e. holds k m e.0) k.tasks = n ∙ are.tasks m in
      let state : open_state k m ≡ open_state_in v = ap (λ o. only_if (λ (r : MachineReg). r.up) (and_then (λ (w : MachineValue). w.1.0) o)) found in
      let sums = sum_by (λ e. request_of e.1.0) (held_tasks k m) in
      let here : open_by v requests tasks ≡ open_at (load_of k m) (count_by (λ e. holds k m e.0) k.tasks) sums (open_state_in v) = opened _ _ _ _ _ _ (open_state_in v) load held all in
      here ∙ ap (open_at (load_of k m) (count_by (λ e. holds k m e.0) k.tasks) sums) (sym state)
