-- The facts on the table of a set are the facts of the set.
use Rattle.std.specs.Prelude.{◌≡◌, ℕ, ◌+◌, ◌-◌, Bool, true, false, cond, not, nat_le, ◌==◌, ◌&&◌, ◌||◌, List, [], ◌∷◌, Option, Some, None, option_map, is_some, filter, max, sum_by, refl}
use Rattle.std.specs.List.{filter_map, cons_option, fold, list_any}
use Rattle.std.proofs.Common.{sym, ap, ◌∙◌, arith}
use Rattle.fm_records.specs.declared.ops.Op.{Op}
use Rattle.fm_records.specs.declared.records.SpecReg.{SpecReg}
use Rattle.fm_records.specs.declared.records.Progress.{Progress}
use Rattle.fm_records.specs.declared.records.Spot.{Spot}
use Rattle.fm_records.specs.Options.{and_then, passes, only_if, or_else, when}
use Rattle.fm_records.specs.Sets.{with_value}
use Rattle.fm_records.specs.Table.{TaskValue}
use Rattle.fm_records.specs.Know.{greatest_progress, spec, progress, task_value, task, table_of}
use Rattle.fm_records.specs.Facts.{is_done, request_of, live_spec, is_live, job_stands, open_state, is_open, is_present, won_spot, winner_of, holder_of, holds, held_tasks, used_of, load_of, spare_of, has_room}
use Rattle.fm_records.specs.SetFacts.{is_active_job, live, state_if_up, present, won, holder, is_held_by, tasks, tasks_held, use_reported, request_asked, load, spare, room}
use Rattle.fm_records.proofs.LookupLaws.{none_some, lookup_job}
use Rattle.fm_records.proofs.FactLaws.{spec_part, spec_is, progress_is, incarnation_is, state_is, report_is, winner_is}

-- Sums, counts and tests over the rows of a table, by their keys.

module _ {K V : Type 0} (f : K → Option V) (p : K → Bool) (missing : (k : K) → f k ≡ None → p k ≡ false) where
  abbrev row : K → Option V → List K → List (K × V)
  row x o xs = cons_option (option_map (λ v. (x, v)) o) (filter_map (with_value f) xs)

  pub sum_rows : (weight : V → ℕ) (of_key : K → ℕ) → ((k : K) (v : V) → f k ≡ Some v → weight v ≡ of_key k) → (n : ℕ) (xs : List K) →
      fold (λ a e. a + weight e.1) n (filter (λ e. p e.0) (filter_map (with_value f) xs)) ≡ fold (λ a k. a + of_key k) n (filter p xs)
  sum_rows weight of_key alike n [] = refl
  sum_rows weight of_key alike n (x ∷ xs) =
      elim (f x) as (λ o. f x ≡ o → fold (λ a e. a + weight e.1) n (filter (λ e. p e.0) (row x o xs)) ≡ fold (λ a k. a + of_key k) n (cond (p x) (x ∷ filter p xs) (filter p xs))) [
        | None ↦ λ e. let not_there = missing x e in rw not_there (sum_rows weight of_key alike n xs)
        | Some v ↦ λ e.
            let first = alike x v e in
            elim (p x) as (λ b. fold (λ a e. a + weight e.1) n (cond b ((x, v) ∷ filter (λ e. p e.0) (filter_map (with_value f) xs)) (filter (λ e. p e.0) (filter_map (with_value f) xs))) ≡ fold (λ a k. a + of_key k) n (cond b (x ∷ filter p xs) (filter p xs))) [
              | true ↦ ap (λ w. fold (λ a e. a + weight e.1) (n + w) (filter (λ e. p e.0) (filter_map (with_value f) xs))) first ∙ sum_rows weight of_key alike (n + of_key x) xs
              | false ↦ sum_rows weight of_key alike n xs
            ]
      ] refl

  pub count_rows : (n : ℕ) (xs : List K) → fold (λ a e. a + cond (p e.0) 1 0) n (filter_map (with_value f) xs) ≡ fold (λ a k. a + cond (p k) 1 0) n xs
  count_rows n [] = refl
  count_rows n (x ∷ xs) =
      elim (f x) as (λ o. f x ≡ o → fold (λ a e. a + cond (p e.0) 1 0) n (row x o xs) ≡ fold (λ a k. a + cond (p k) 1 0) (n + cond (p x) 1 0) xs) [
        | None ↦ λ e.
            let not_there = missing x e in
            let as_before : n ≡ n + cond (p x) 1 0 = rw not_there (omega arith) in
            count_rows n xs ∙ ap (λ m. fold (λ a k. a + cond (p k) 1 0) m xs) as_before
        | Some v ↦ λ _. count_rows (n + cond (p x) 1 0) xs
      ] refl

  pub any_rows : (xs : List K) → list_any (λ e. p e.0) (filter_map (with_value f) xs) ≡ list_any p xs
  any_rows [] = refl
  any_rows (x ∷ xs) =
      elim (f x) as (λ o. f x ≡ o → list_any (λ e. p e.0) (row x o xs) ≡ (p x || list_any p xs)) [
        | None ↦ λ e. let not_there = missing x e in rw not_there (any_rows xs)
        | Some v ↦ λ _. ap (λ b. p x || b) (any_rows xs)
      ] refl

is_there : {A : Type 0} (o : Option A) → passes (λ a. true) o ≡ is_some o
is_there None = refl
is_there (Some a) = refl

no_spec : (a : Option SpecReg) (b : Option Progress) → task_value a b ≡ None → a ≡ None
no_spec None b e = refl
no_spec (Some s) b e = none_some (Some s, or_else _ b) (sym e)

module _ (S : List Op) where
  pub stands_is : (j : ℕ) → job_stands (table_of S) j ≡ is_active_job S j
  stands_is j = ap (passes (λ r. not r.withdrawn)) (lookup_job S j)

  pub live_is : (t : ℕ) → live_spec (table_of S) t ≡ live S t
  live_is t = λ i. only_if (λ s. not s.withdrawn && stands_is s.job i && not (is_done (progress_is S t i).phase)) (spec_is S t i)

  pub is_live_is : (t : ℕ) → is_live (table_of S) t ≡ is_some (live S t)
  is_live_is t = ap (passes (λ s. true)) (live_is t) ∙ is_there (live S t)

  pub opened_is : (m : ℕ) → open_state (table_of S) m ≡ state_if_up S m
  opened_is m = ap (only_if (λ r. r.up)) (state_is S m)

  pub is_open_is : (m : ℕ) → is_open (table_of S) m ≡ is_some (state_if_up S m)
  is_open_is m = ap (passes (λ r. true)) (opened_is m) ∙ is_there (state_if_up S m)

  pub present_is : (s : Spot) → is_present (table_of S) s ≡ present S s
  present_is s = λ i. is_open_is s.machine i && passes (λ n. n == s.incarnation) (incarnation_is S s.machine i)

  pub won_is : (t : ℕ) → won_spot (table_of S) t ≡ won S t
  won_is t =
      ap (λ (p : Progress). option_map (λ w. w.1) (winner_of (table_of S) t p.attempt)) (progress_is S t)
      ∙ ap (option_map (λ w. w.1)) (winner_is S (t, (progress S t).attempt))

  pub holder_is : (t : ℕ) → holder_of (table_of S) t ≡ holder S t
  holder_is t = λ i. cond (is_live_is t i) (option_map (λ s. s.machine) (only_if (λ s. present_is s i) (won_is t i))) None

  pub held_by_is : (m t : ℕ) → holds (table_of S) m t ≡ is_held_by S m t
  held_by_is m t = ap (passes (λ h. h == m)) (holder_is t)

  -- what is not a row of the table is not live, and not held
  pub not_live : (t : ℕ) → task S t ≡ None → live S t ≡ None
  not_live t e = ap (only_if _) (no_spec (spec S t) (greatest_progress S t) e)

  not_held : (m t : ℕ) → task S t ≡ None → is_held_by S m t ≡ false
  not_held m t e = ap (λ (o : Option SpecReg). passes (λ h. h == m) (cond (is_some o) (option_map (λ s. s.machine) (only_if (present S) (won S t))) None)) (not_live t e)

  request_is : (t : ℕ) (v : TaskValue) → task S t ≡ Some v → request_of v.0 ≡ request_asked S t
  request_is t v e = ap request_of (ap (and_then (λ v. v.0)) (sym e) ∙ spec_part (spec S t) (greatest_progress S t))

  pub held_sum : (m : ℕ) → sum_by (λ e. request_of e.1.0) (held_tasks (table_of S) m) ≡ sum_by (request_asked S) (tasks_held S m)
  held_sum m =
      (λ i. sum_by (λ e. request_of e.1.0) (filter (λ e. held_by_is m e.0 i) (table_of S).tasks))
      ∙ sum_rows (task S) (is_held_by S m) (not_held m) (λ v. request_of v.0) (request_asked S) request_is 0 (tasks S)

  pub used_is : (m : ℕ) → used_of (table_of S) m ≡ use_reported S m
  used_is m = ap (λ o. or_else 0 (option_map (λ r. r.used) o)) (report_is S m)

  pub load_is : (m : ℕ) → load_of (table_of S) m ≡ load S m
  load_is m = λ i. max (used_is m i) (held_sum m i)

  pub spare_is : (m : ℕ) → spare_of (table_of S) m ≡ spare S m
  spare_is m = λ i. and_then (λ r. when (nat_le (load_is m i) r.nic) (r.nic - load_is m i)) (opened_is m i)

  pub room_is : (m request : ℕ) → has_room (table_of S) m request ≡ room S m request
  room_is m request = ap (passes (λ s. nat_le request s)) (spare_is m)
