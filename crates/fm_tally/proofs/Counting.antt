-- What machines hold, counted in a walk over the unfinished tasks.
use Rattle.std.proofs.Common.{◌≡◌, ◌∙◌, ℕ, ◌+◌, ◌*◌, ◌<◌, ◌≤◌, ◌^◌, ◌++◌, Bool, true, false, cond, List, [], ◌∷◌, Some, None, sym, ap, subst, refl, arith, length, append_assoc, zero-add}
use Rattle.std.specs.Prelude.{filter, count_by, sum_by, Option, option_map, not, ◌&&◌, ◌==◌}
use Rattle.std.specs.List.{cons_option}
use Rattle.std.specs.Ordering.{nat_cmp}
use Rattle.std.proofs.lemmas.List.Sums.{sum_by-cons}
use Rattle.fm_lattice.specs.Maps.{lookup, IsRising}
use Rattle.fm_records.specs.declared.records.SpecReg.{SpecReg}
use Rattle.fm_records.proofs.LookupLaws.{both_true}
use Rattle.fm_records.specs.Know.{initial_progress}
use Rattle.fm_records.specs.Options.{and_then, only_if, or_else, passes, when}
use Rattle.fm_records.specs.Table.{Table, TaskValue}
use Rattle.fm_records.specs.Facts.{request_of, holds, held_tasks, spec_of, live_spec, job_stands, progress_of, is_done, is_present, won_spot}
use Rattle.fm_net.proofs.NetworkLaws.{only_if_some, came_from, mapped_from}
use Rattle.fm_tally.specs.declared.holdings.Holdings.{Holdings}
use Rattle.fm_tally.specs.declared.unfinished.UnfinishedTask.{UnfinishedTask}
use Rattle.fm_tally.specs.inner.Holdings.{requests_in, tasks_in, AreHoldings}
use Rattle.fm_tally.specs.Tallies.{unfinished_spec}
use Rattle.fm_tally.specs.Unfinished.{task_with, unfinished_at}
use Rattle.fm_tally.proofs.Rows.{rows, lookup_met}

inside : {A : Type 0} (a b : A) → Some a ≡ Some b → a ≡ b
inside a b e = cc

no_some : {A P : Type 0} (a : A) → None ≡ Some a → P
no_some a e = absurd (let no : ⊥ = cc in no)

at_most : (b : Bool) (r : ℕ) → cond b r 0 ≤ r
at_most true r = omega arith
at_most false r = omega arith

module _ (k : Table) where
  abbrev share : ℕ → ℕ × UnfinishedTask → ℕ
  share m e = cond (holds k m e.0) e.1.request 0

  abbrev request : ℕ × TaskValue → ℕ
  request e = request_of e.1.0

  -- Whoever is held is unfinished.

  is_unfinished : (t : ℕ) (v : TaskValue) (s : SpecReg) → lookup nat_cmp t k.tasks ≡ Some v → v.0 ≡ Some s
      → (not s.withdrawn && job_stands k s.job && not (is_done (progress_of k t).phase)) ≡ true → unfinished_spec v ≡ Some s
  is_unfinished t v s row spec live =
      let parts = both_true (not s.withdrawn && job_stands k s.job) (not (is_done (progress_of k t).phase)) live in
      let told : not s.withdrawn ≡ true = (both_true (not s.withdrawn) (job_stands k s.job) parts.0).0 in
      let goes : not (is_done v.1.phase) ≡ true = sym (ap (λ o. not (is_done (or_else initial_progress (option_map (λ (w : TaskValue). w.1) o)).phase)) row) ∙ parts.1 in
      let both : (not s.withdrawn && not (is_done v.1.phase)) ≡ true = λ i. told i && goes i in
      ap (only_if (λ (z : SpecReg). not z.withdrawn && not (is_done v.1.phase))) spec ∙ ap (λ b. when b s) both

  -- a live task is unfinished
  pub live_unfinished : (t : ℕ) (s : SpecReg) → live_spec k t ≡ Some s → (u : UnfinishedTask) × (unfinished_at k t ≡ Some u)
  live_unfinished t s e =
      let h = only_if_some _ (spec_of k t) s e in
      let row = came_from (λ (w : TaskValue). w.0) (lookup nat_cmp t k.tasks) s h.0 in
      let is : and_then unfinished_spec (lookup nat_cmp t k.tasks) ≡ Some s = ap (and_then unfinished_spec) row.1 ∙ is_unfinished t row.0 s row.1 row.2 h.1 in
      (task_with s (won_spot k t), ap (option_map (λ z. task_with z (won_spot k t))) is)

  none_held : (t : ℕ) (v : TaskValue) → lookup nat_cmp t k.tasks ≡ Some v → unfinished_spec v ≡ None → (m : ℕ) → holds k m t ≡ false
  none_held t v row none m = elim (live_spec k t) as (λ o. live_spec k t ≡ o → passes (λ h. h == m) (cond (passes (λ (s : SpecReg). true) o) (option_map (λ s. s.machine) (only_if (is_present k) (won_spot k t))) None) ≡ false) [
    | None ↦ λ _. refl
    | Some s ↦ λ e.
        let h = only_if_some _ (spec_of k t) s e in
        let spec : v.0 ≡ Some s = sym (ap (and_then (λ (w : TaskValue). w.0)) row) ∙ h.0 in
        no_some s (sym none ∙ is_unfinished t v s row spec h.1)
  ] refl

  same_request : (t : ℕ) (v : TaskValue) (u : UnfinishedTask) → lookup nat_cmp t k.tasks ≡ Some v → unfinished_at k t ≡ Some u → u.request ≡ request_of v.0
  same_request t v u row is =
      let spec = mapped_from _ (and_then unfinished_spec (lookup nat_cmp t k.tasks)) u is in
      let from = came_from unfinished_spec (lookup nat_cmp t k.tasks) spec.0 spec.1 in
      let same : from.0 ≡ v = inside from.0 v (sym from.1 ∙ row) in
      let known = only_if_some _ from.0.0 spec.0 from.2 in
      ap (λ (w : UnfinishedTask). w.request) (sym spec.2) ∙ sym (ap request_of known.0) ∙ ap (λ (w : TaskValue). request_of w.0) same

  -- The sums over the unfinished tasks are those over all tasks.

  sum_kept : (m : ℕ) (e : ℕ × TaskValue) (es : List (ℕ × TaskValue)) (b : Bool) → holds k m e.0 ≡ b
      → sum_by request (filter (λ e. holds k m e.0) (e ∷ es)) ≡ cond b (request e) 0 + sum_by request (filter (λ e. holds k m e.0) es)
  sum_kept m e es true is = ap (λ b. sum_by request (cond b (e ∷ filter (λ e. holds k m e.0) es) (filter (λ e. holds k m e.0) es))) is ∙ sum_by-cons request e (filter (λ e. holds k m e.0) es)
  sum_kept m e es false is = ap (λ b. sum_by request (cond b (e ∷ filter (λ e. holds k m e.0) es) (filter (λ e. holds k m e.0) es))) is ∙ sym (zero-add _)

  module _ (rising : IsRising nat_cmp k.tasks) (m : ℕ) where
    abbrev unfinished_in : List (ℕ × TaskValue) → List (ℕ × UnfinishedTask)
    unfinished_in es = rows (unfinished_at k) es

    abbrev row_in : ℕ → Option UnfinishedTask → List (ℕ × UnfinishedTask) → List (ℕ × UnfinishedTask)
    row_in t o later = cons_option (option_map (λ u. (t, u)) o) later

    row_at : (walked : List (ℕ × TaskValue)) (e : ℕ × TaskValue) (es : List (ℕ × TaskValue)) → k.tasks ≡ walked ++ e ∷ es → lookup nat_cmp e.0 k.tasks ≡ Some e.1
    row_at walked e es whole = subst (λ xs. lookup nat_cmp e.0 xs ≡ Some e.1) (sym whole) (lookup_met walked es e (subst (IsRising nat_cmp) whole rising))

    gone : (t : ℕ) (v : TaskValue) → lookup nat_cmp t k.tasks ≡ Some v → unfinished_at k t ≡ None → holds k m t ≡ false
    gone t v row none = elim (unfinished_spec v) as (λ o. unfinished_spec v ≡ o → holds k m t ≡ false) [
      | None ↦ λ is. none_held t v row is m
      | Some s ↦ λ is. no_some (task_with s (won_spot k t)) (sym none ∙ ap (option_map (λ z. task_with z (won_spot k t))) (ap (and_then unfinished_spec) row ∙ is))
    ] refl

    one : (e : ℕ × TaskValue) (es : List (ℕ × TaskValue)) (later : List (ℕ × UnfinishedTask)) → lookup nat_cmp e.0 k.tasks ≡ Some e.1
        → sum_by (share m) later ≡ sum_by request (filter (λ e. holds k m e.0) es)
        → sum_by (share m) (row_in e.0 (unfinished_at k e.0) later) ≡ sum_by request (filter (λ e. holds k m e.0) (e ∷ es))
    one e es later row same = elim (unfinished_at k e.0) as (λ o. unfinished_at k e.0 ≡ o → sum_by (share m) (row_in e.0 o later) ≡ sum_by request (filter (λ e. holds k m e.0) (e ∷ es))) [
      | None ↦ λ none. same ∙ sym (zero-add _) ∙ sym (sum_kept m e es false (gone e.0 e.1 row none))
      | Some u ↦ λ is.
          sum_by-cons (share m) (e.0, u) later
          ∙ (λ i. cond (holds k m e.0) (same_request e.0 e.1 u row is i) 0 + same i)
          ∙ sym (sum_kept m e es (holds k m e.0) refl)
    ] refl

    one_task : (e : ℕ × TaskValue) (es : List (ℕ × TaskValue)) (later : List (ℕ × UnfinishedTask)) → lookup nat_cmp e.0 k.tasks ≡ Some e.1
        → count_by (λ e. holds k m e.0) later ≡ count_by (λ e. holds k m e.0) es
        → count_by (λ e. holds k m e.0) (row_in e.0 (unfinished_at k e.0) later) ≡ count_by (λ e. holds k m e.0) (e ∷ es)
    one_task e es later row same =
        let all = sum_by-cons (λ (e : ℕ × TaskValue). cond (holds k m e.0) 1 0) e es in
        elim (unfinished_at k e.0) as (λ o. unfinished_at k e.0 ≡ o → count_by (λ e. holds k m e.0) (row_in e.0 o later) ≡ count_by (λ e. holds k m e.0) (e ∷ es)) [
          | None ↦ λ none. same ∙ sym (all ∙ ap (λ b. cond b 1 0 + count_by (λ (e : ℕ × TaskValue). holds k m e.0) es) (gone e.0 e.1 row none) ∙ zero-add _)
          | Some u ↦ λ is. sum_by-cons (λ (e : ℕ × UnfinishedTask). cond (holds k m e.0) 1 0) (e.0, u) later ∙ ap (λ n. cond (holds k m e.0) 1 0 + n) same ∙ sym all
        ] refl

    requests_from : (walked es : List (ℕ × TaskValue)) → k.tasks ≡ walked ++ es → sum_by (share m) (unfinished_in es) ≡ sum_by request (filter (λ e. holds k m e.0) es)
    requests_from walked [] whole = refl
    requests_from walked (e ∷ es) whole =
        one e es (unfinished_in es) (row_at walked e es whole) (requests_from (walked ++ e ∷ []) es (whole ∙ sym (append_assoc walked (e ∷ []) es)))

    tasks_from : (walked es : List (ℕ × TaskValue)) → k.tasks ≡ walked ++ es → count_by (λ e. holds k m e.0) (unfinished_in es) ≡ count_by (λ e. holds k m e.0) es
    tasks_from walked [] whole = refl
    tasks_from walked (e ∷ es) whole =
        one_task e es (unfinished_in es) (row_at walked e es whole) (tasks_from (walked ++ e ∷ []) es (whole ∙ sym (append_assoc walked (e ∷ []) es)))

  -- What is counted if the rest of n unfinished tasks is still to come.
  pub record IsCounting (n : ℕ) (rest : List (ℕ × UnfinishedTask)) (holdings : Holdings) : Type 0 where
    pub requests : (m : ℕ) → requests_in holdings m + sum_by (share m) rest ≡ sum_by request (held_tasks k m)
    pub tasks : (m : ℕ) → tasks_in holdings m + count_by (λ e. holds k m e.0) rest ≡ count_by (λ e. holds k m e.0) k.tasks
    pub requests_fit : (m : ℕ) → requests_in holdings m + 2 ^ 32 * length rest ≤ 2 ^ 32 * n
    pub tasks_fit : (m : ℕ) → tasks_in holdings m + length rest ≤ n

  pub counting_begins : (all : List (ℕ × UnfinishedTask)) (holdings : Holdings) → IsRising nat_cmp k.tasks → all ≡ rows (unfinished_at k) k.tasks
      → ((m : ℕ) → requests_in holdings m ≡ 0) → ((m : ℕ) → tasks_in holdings m ≡ 0) → IsCounting (length all) all holdings
  counting_begins all holdings rising are none few = record {
    requests = λ m. let a : sum_by (share m) all ≡ sum_by request (held_tasks k m) = ap (sum_by (share m)) are ∙ requests_from rising m [] k.tasks refl in let b = none m in omega (arith, a, b);
    tasks = λ m. let a : count_by (λ e. holds k m e.0) all ≡ count_by (λ e. holds k m e.0) k.tasks = ap (count_by (λ (e : ℕ × UnfinishedTask). holds k m e.0)) are ∙ tasks_from rising m [] k.tasks refl in let b = few m in omega (arith, a, b);
    requests_fit = λ m. omega (arith, none m);
    tasks_fit = λ m. omega (arith, few m);
  }

  -- the next task, which counts for the machine that holds it
  pub counting_next : (n t : ℕ) (u : UnfinishedTask) (rest : List (ℕ × UnfinishedTask)) (old new : Holdings) → ((m : ℕ) → cond (holds k m t) u.request 0 < 2 ^ 32)
      → ((m : ℕ) → requests_in new m ≡ requests_in old m + cond (holds k m t) u.request 0) → ((m : ℕ) → tasks_in new m ≡ tasks_in old m + cond (holds k m t) 1 0)
      → IsCounting n ((t, u) ∷ rest) old → IsCounting n rest new
  counting_next n t u rest old new fits requests tasks counting = record {
    requests = λ m. let a = counting.requests m in let b = sum_by-cons (share m) (t, u) rest in let c = requests m in omega (arith, a, b, c);
    tasks = λ m. let a = counting.tasks m in let b = sum_by-cons (λ (e : ℕ × UnfinishedTask). cond (holds k m e.0) 1 0) (t, u) rest in let c = tasks m in omega (arith, a, b, c);
    requests_fit = λ m. let a = counting.requests_fit m in let c = requests m in let d = fits m in omega (arith, a, c, d);
    tasks_fit = λ m. let a = counting.tasks_fit m in let c = tasks m in let d = at_most (holds k m t) 1 in omega (arith, a, c, d);
  }

  pub counting_ends : (n : ℕ) (holdings : Holdings) → IsCounting n [] holdings → AreHoldings k holdings
  counting_ends n holdings counting = record {
    requests = λ m. let a = counting.requests m in omega (arith, a);
    tasks = λ m. let a = counting.tasks m in omega (arith, a);
  }
