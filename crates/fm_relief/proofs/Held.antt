-- The tasks that a machine holds, as the table and its tally tell of them.
use Rattle.std.proofs.Common.{◌≡◌, ℕ, ◌+◌, Bool, true, false, cond, List, [], ◌∷◌, Option, Some, None, option_map, map, refl, sym, ◌∙◌, ap, subst, arith, filter, inl, inr}
use Rattle.std.specs.Prelude.{◌==◌, sum_by}
use Rattle.std.specs.Cmp.{nat_cmp_total}
use Rattle.std.specs.List.{AllByRecursion, IsDistinct, filter_map, cons_option}
use Rattle.std.specs.Ordering.{nat_cmp}
use Rattle.std.specs.declared.cmp.Ordering.TheVariants.{Less, Equal}
use Rattle.std.proofs.lemmas.Bool.{eqb-true}
use Rattle.std.proofs.lemmas.Cmp.{tied_itself}
use Rattle.std.proofs.lemmas.List.Sums.{sum_by-cons}
use Rattle.fm_lattice.specs.Maps.{lookup, IsBelow, IsRising}
use Rattle.fm_lattice.specs.laws.ChainLaws.{nat_same, less_greater}
use Rattle.fm_lattice.specs.laws.MapLaws.{same_map}
use Rattle.fm_records.specs.declared.records.JobReg.{JobReg}
use Rattle.fm_records.specs.declared.records.SpecReg.{SpecReg}
use Rattle.fm_records.specs.Options.{and_then, or_else, passes, when}
use Rattle.fm_records.specs.Rising.{IsBelowAll, Rises}
use Rattle.fm_records.specs.Sets.{IsMember}
use Rattle.fm_records.specs.Table.{Table, TaskValue}
use Rattle.fm_records.specs.Facts.{job_of, spec_of, attempt_of, live_spec, is_live, holder_of, holds, request_of}
use Rattle.fm_records.proofs.LookupLaws.{both_true}
use Rattle.fm_records.proofs.SetLaws.{member_from, member_kept}
use Rattle.fm_net.proofs.ListLaws.{entry_member}
use Rattle.fm_net.proofs.NetworkLaws.{passes_some, only_if_some, came_from, mapped_from, where_true, live_entry}
use Rattle.fm_tally.specs.declared.tally.LiveTask.{LiveTask}
use Rattle.fm_tally.specs.declared.tally.Tally.{Tally}
use Rattle.fm_tally.specs.Tallies.{has_any, task_at, TallyIsFor}
use Rattle.fm_tally.proofs.Rows.{rows, rising_rows, lookup_rows}
use Rattle.fm_relief.specs.declared.held_task.HeldTask.{HeldTask}
use Rattle.fm_relief.specs.Relief.{held_task_at, tasks_on, requests_on}
use Rattle.fm_relief.specs.inner.HeldLists.{task_entry}
use Rattle.fm_relief.proofs.Orders.{AreApart, same_task}

-- A task of a tally, where it is held.

abbrev task_by_job : ℕ → ℕ → SpecReg → JobReg → HeldTask
task_by_job t a s job = record { task = t; attempt = a; request = s.request; price = job.preempt }

abbrev live_by_job : Option ℕ → SpecReg → JobReg → LiveTask
live_by_job hd s job = record { job = s.job; request = s.request; price = cond (passes (λ h. true) hd) job.preempt job.wait; holder = hd; prefers = has_any s.prefer }

abbrev held_entry : ℕ → ℕ → ℕ → LiveTask → Option HeldTask
held_entry m t a l = and_then (λ h. when (h == m) (record { task = t; attempt = a; request = l.request; price = l.price })) l.holder

abbrev nothing : Option HeldTask
nothing = None

none_either_way : (b : Bool) → nothing ≡ cond b nothing nothing
none_either_way true = refl
none_either_way false = refl

by_job : (m t a : ℕ) (hd : Option ℕ) (s : SpecReg) (jo : Option JobReg)
    → and_then (held_entry m t a) (option_map (live_by_job hd s) jo) ≡ cond (passes (λ h. h == m) hd) (option_map (task_by_job t a s) jo) None
by_job m t a None s None = refl
by_job m t a None s (Some job) = refl
by_job m t a (Some h) s None = none_either_way (h == m)
by_job m t a (Some h) s (Some job) = refl

by_spec : (k : Table) (m t a : ℕ) (hd : Option ℕ) (o : Option SpecReg)
    → and_then (held_entry m t a) (and_then (λ (s : SpecReg). option_map (live_by_job hd s) (job_of k s.job)) o)
    ≡ cond (passes (λ h. h == m) hd) (and_then (λ (s : SpecReg). option_map (task_by_job t a s) (job_of k s.job)) o) None
by_spec k m t a hd None = none_either_way (passes (λ h. h == m) hd)
by_spec k m t a hd (Some s) = by_job m t a hd s (job_of k s.job)

pub entry_is : (k : Table) (m t : ℕ) → and_then (held_entry m t (attempt_of k t)) (task_at k t) ≡ held_task_at k m t
entry_is k m t = by_spec k m t (attempt_of k t) (holder_of k t) (live_spec k t)

abbrev pub entry_on : Table → ℕ → ℕ × LiveTask → Option HeldTask
entry_on k m e = and_then (λ h. when (h == m) (task_entry k e.0 e.1)) e.1.holder

-- all of them
module _ (k : Table) (m : ℕ) where
  abbrev told : List (ℕ × TaskValue) → List HeldTask
  told es = filter_map (λ e. held_task_at k m e.0) es

  pub rows_told : (es : List (ℕ × TaskValue)) → filter_map (entry_on k m) (rows (task_at k) es) ≡ told es
  rows_told [] = refl
  rows_told (e ∷ es) =
      let rest = rows_told es in
      elim (task_at k e.0) as (λ o. task_at k e.0 ≡ o → filter_map (entry_on k m) (cons_option (option_map (λ l. (e.0, l)) o) (rows (task_at k) es)) ≡ cons_option (held_task_at k m e.0) (told es)) [
        | None ↦ λ g.
            let none : None ≡ held_task_at k m e.0 = sym (ap (and_then (held_entry m e.0 (attempt_of k e.0))) g) ∙ entry_is k m e.0 in
            rest ∙ ap (λ o. cons_option o (told es)) none
        | Some l ↦ λ g.
            let some : entry_on k m (e.0, l) ≡ held_task_at k m e.0 = sym (ap (and_then (held_entry m e.0 (attempt_of k e.0))) g) ∙ entry_is k m e.0 in
            λ i. cons_option (some i) (rest i)
      ] refl

  -- it is the task with the id
  id_is : (t : ℕ) (h : HeldTask) → held_task_at k m t ≡ Some h → h.task ≡ t
  id_is t h e =
      let found = (where_true (holds k m t) (and_then (λ (s : SpecReg). option_map (task_by_job t (attempt_of k t) s) (job_of k s.job)) (live_spec k t)) h e).1 in
      let spec = came_from (λ (s : SpecReg). option_map (task_by_job t (attempt_of k t) s) (job_of k s.job)) (live_spec k t) h found in
      let job = mapped_from (task_by_job t (attempt_of k t) spec.0) (job_of k spec.0.job) h spec.2 in
      ap (λ (x : HeldTask). x.task) (sym job.2)

  below_told : (q : ℕ) (es : List (ℕ × TaskValue)) → IsBelow nat_cmp q es → IsBelowAll nat_cmp q (map (λ h. h.task) (told es))
  below_told q [] b = tt
  below_told q (e ∷ es) b =
      let rest = below_told q es b.1 in
      elim (held_task_at k m e.0) as (λ o. held_task_at k m e.0 ≡ o → IsBelowAll nat_cmp q (map (λ h. h.task) (cons_option o (told es)))) [
        | None ↦ λ _. rest
        | Some h ↦ λ g. (subst (λ t. nat_cmp q t ≡ Less) (sym (id_is e.0 h g)) b.0, rest)
      ] refl

  pub told_rises : (es : List (ℕ × TaskValue)) → IsRising nat_cmp es → Rises nat_cmp (map (λ h. h.task) (told es))
  told_rises [] r = tt
  told_rises (e ∷ es) r =
      let rest = told_rises es r.1 in
      elim (held_task_at k m e.0) as (λ o. held_task_at k m e.0 ≡ o → Rises nat_cmp (map (λ h. h.task) (cons_option o (told es)))) [
        | None ↦ λ _. rest
        | Some h ↦ λ g. (subst (λ t. IsBelowAll nat_cmp t (map (λ h. h.task) (told es))) (sym (id_is e.0 h g)) (below_told e.0 es r.0), rest)
      ] refl

-- tasks whose ids rise are of no task twice
less_apart : (a b : ℕ) → nat_cmp a b ≡ Less → (a == b) ≡ false
less_apart a b less = elim (a == b) as (λ v. (a == b) ≡ v → v ≡ false) [
  | true ↦ λ e. let tied : Less ≡ Equal = sym less ∙ ap (nat_cmp a) (sym (eqb-true a b e)) ∙ tied_itself nat_cmp_total a in absurd (let no : ⊥ = cc in no)
  | false ↦ λ _. refl
] refl

others : (x : HeldTask) (xs : List HeldTask) → IsBelowAll nat_cmp x.task (map (λ h. h.task) xs) → AllByRecursion (λ y. same_task x y ≡ false) xs
others x [] b = tt
others x (y ∷ ys) b = (less_apart x.task y.task b.0, others x ys b.1)

pub apart : (xs : List HeldTask) → Rises nat_cmp (map (λ h. h.task) xs) → AreApart xs
unfolding IsDistinct
apart [] r = tt
apart (x ∷ xs) r = (others x xs r.0, apart xs r.1)

-- The sum of what they request.

-- what a rising list has is looked up
below_entry : {V : Type 0} (q : ℕ) (es : List (ℕ × V)) (e : ℕ × V) → IsBelow nat_cmp q es → IsMember e es → nat_cmp q e.0 ≡ Less
below_entry q [] e b m = absurd m
below_entry {V} q (x ∷ es) e b m = elim m [ inl is ↦ subst (λ (z : ℕ × V). nat_cmp q z.0 ≡ Less) is b.0 | inr later ↦ below_entry q es e b.1 later ]

entry_known : {V : Type 0} (es : List (ℕ × V)) (e : ℕ × V) → IsRising nat_cmp es → IsMember e es → lookup nat_cmp e.0 es ≡ Some e.1
entry_known [] e r m = absurd m
entry_known {V} (x ∷ es) e r m = elim m [
  | inl is ↦
      let first : lookup nat_cmp x.0 (x ∷ es) ≡ Some x.1 = rw (tied_itself nat_cmp_total x.0) refl in
      subst (λ (z : ℕ × V). lookup nat_cmp z.0 (x ∷ es) ≡ Some z.1) is first
  | inr later ↦ rw (less_greater nat_cmp nat_cmp_total x.0 e.0 (below_entry x.0 es e r.0 later)) (entry_known es e r.1 later)
]

live_job : (k : Table) (t : ℕ) (s : SpecReg) → live_spec k t ≡ Some s → (job : JobReg) × (job_of k s.job ≡ Some job)
live_job k t s e =
    let h = (only_if_some _ (spec_of k t) s e).1 in
    let job = passes_some _ (job_of k s.job) (both_true _ _ (both_true _ _ h).0).1 in
    (job.0, job.1)

-- what one task requests, where it is held
abbrev weight : Option HeldTask → ℕ
weight o = or_else 0 (option_map (λ h. h.request) o)

module _ (k : Table) (m : ℕ) where
  held_live : (t : ℕ) → holds k m t ≡ true → (s : SpecReg) × (live_spec k t ≡ Some s)
  held_live t h =
      let holder = passes_some (λ n. n == m) (holder_of k t) h in
      let live = passes_some (λ (s : SpecReg). true) (live_spec k t) (where_true (is_live k t) _ holder.0 holder.1).0 in
      (live.0, live.1)

  weight_is : (t : ℕ) (v : TaskValue) → lookup nat_cmp t k.tasks ≡ Some v → weight (held_task_at k m t) ≡ cond (holds k m t) (request_of v.0) 0
  weight_is t v known = elim (holds k m t) as (λ b. holds k m t ≡ b
      → weight (cond b (and_then (λ (s : SpecReg). option_map (task_by_job t (attempt_of k t) s) (job_of k s.job)) (live_spec k t)) None) ≡ cond b (request_of v.0) 0) [
        | false ↦ λ _. refl
        | true ↦ λ held.
            let live = held_live t held in
            let job = live_job k t live.0 live.1 in
            let spec : v.0 ≡ Some live.0 = sym (ap (and_then (λ (w : TaskValue). w.0)) known) ∙ (only_if_some _ (spec_of k t) live.0 live.1).0 in
            ap (λ o. weight (and_then (λ (s : SpecReg). option_map (task_by_job t (attempt_of k t) s) (job_of k s.job)) o)) live.1
            ∙ ap (λ o. weight (option_map (task_by_job t (attempt_of k t) live.0) o)) job.1
            ∙ sym (ap request_of spec)
      ] refl

  one_more : (o : Option HeldTask) (xs : List HeldTask) → sum_by (λ h. h.request) (cons_option o xs) ≡ weight o + sum_by (λ h. h.request) xs
  one_more None xs = omega arith
  one_more (Some h) xs = sum_by-cons (λ (h : HeldTask). h.request) h xs

  one_kept : (b : Bool) (e : ℕ × TaskValue) (es : List (ℕ × TaskValue))
      → sum_by (λ (e : ℕ × TaskValue). request_of e.1.0) (cond b (e ∷ es) es) ≡ cond b (request_of e.1.0) 0 + sum_by (λ (e : ℕ × TaskValue). request_of e.1.0) es
  one_kept true e es = sum_by-cons (λ (e : ℕ × TaskValue). request_of e.1.0) e es
  one_kept false e es = omega arith

  sum_told : (es : List (ℕ × TaskValue)) → ((e : ℕ × TaskValue) → IsMember e es → lookup nat_cmp e.0 k.tasks ≡ Some e.1)
      → sum_by (λ h. h.request) (told k m es) ≡ sum_by (λ (e : ℕ × TaskValue). request_of e.1.0) (filter (λ (e : ℕ × TaskValue). holds k m e.0) es)
  sum_told [] known = refl
  sum_told (e ∷ es) known =
      let rest = sum_told es (λ z later. known z (inr later)) in
      one_more (held_task_at k m e.0) (told k m es)
      ∙ (λ i. weight_is e.0 e.1 (known e (inl refl)) i + rest i)
      ∙ sym (one_kept (holds k m e.0) e (filter (λ (e : ℕ × TaskValue). holds k m e.0) es))

  pub sum_on : IsRising nat_cmp k.tasks → requests_on k m ≡ sum_by (λ h. h.request) (tasks_on k m)
  sum_on rising = sym (sum_told k.tasks (λ e is. entry_known k.tasks e rising is))

  pub on_rises : IsRising nat_cmp k.tasks → Rises nat_cmp (map (λ h. h.task) (tasks_on k m))
  on_rises rising = told_rises k m k.tasks rising

  -- just those that it holds
  pub on_from : (e : HeldTask) → IsMember e (tasks_on k m) → held_task_at k m e.task ≡ Some e
  on_from e is =
      let row = member_from (λ (x : ℕ × TaskValue). held_task_at k m x.0) k.tasks e is in
      subst (λ t. held_task_at k m t ≡ Some e) (sym (id_is k m row.0.0 e row.2)) row.2

  pub on_in : (e : HeldTask) → held_task_at k m e.task ≡ Some e → IsMember e (tasks_on k m)
  on_in e is =
      let found = (where_true (holds k m e.task) (and_then (λ (s : SpecReg). option_map (task_by_job e.task (attempt_of k e.task) s) (job_of k s.job)) (live_spec k e.task)) e is).1 in
      let spec = came_from (λ (s : SpecReg). option_map (task_by_job e.task (attempt_of k e.task) s) (job_of k s.job)) (live_spec k e.task) e found in
      let row = live_entry k e.task spec.0 spec.1 in
      member_kept (λ (x : ℕ × TaskValue). held_task_at k m x.0) (e.task, row.0) e k.tasks is (entry_member nat_cmp nat_same e.task row.0 k.tasks row.1)

-- The tasks of a tally.
pub tasks_are : (k : Table) (tally : Tally) → TallyIsFor k tally → IsRising nat_cmp tally.tasks → IsRising nat_cmp k.tasks → tally.tasks ≡ rows (task_at k) k.tasks
tasks_are k tally is rising known =
    same_map nat_cmp nat_cmp_total nat_same tally.tasks (rows (task_at k) k.tasks) rising (rising_rows (task_at k) k.tasks known)
    (λ q. is.tasks q ∙ sym (lookup_rows (task_at k) k.tasks q (λ (l : LiveTask) e.
    let s = came_from _ (live_spec k q) l e in
    let v = live_entry k q s.0 s.1 in
    (v.0, v.1))))
