-- What a relief preempts: of the tasks on each overfull machine the first ones in an order, until the others fit (this project's profile).
use Rattle.std.specs.Prelude.{ℕ, Bool, cond, nat_lt, List, [], ◌∷◌, Option, None, option_map, filter, flat_map, map, sum_by}
use Rattle.std.specs.List.{filter_map}
use Rattle.std.specs.Ordering.{nat_cmp, ordering_then, is_lt}
use Rattle.std.specs.declared.cmp.Ordering.{Ordering}
use Rattle.fm_records.specs.Options.{and_then, when}
use Rattle.fm_records.specs.Table.{Table}
use Rattle.fm_records.specs.Facts.{attempt_of, job_of, live_spec, open_state, holds, held_tasks, request_of}
use Rattle.fm_round.specs.declared.plan.Preempt.{Preempt}
use Rattle.fm_round.specs.declared.plan.Plan.{Plan}
use Rattle.fm_relief.specs.declared.held_task.HeldTask.{HeldTask}
use Rattle.fm_relief.specs.declared.relief.OverfullMachine.{OverfullMachine}

-- a task that the machine holds: its present attempt, what it requests, and what its job asks for a preemption
abbrev pub held_task_at : Table → ℕ → ℕ → Option HeldTask
held_task_at k m t = cond (holds k m t) (and_then (λ s. option_map (λ job. record { task = t; attempt = attempt_of k t; request = s.request; price = job.preempt }) (job_of k s.job)) (live_spec k t)) None

-- all tasks that the machine holds, by id
abbrev pub tasks_on : Table → ℕ → List HeldTask
tasks_on k m = filter_map (λ e. held_task_at k m e.0) k.tasks

-- the sum of their requests, as a load has it
abbrev pub requests_on : Table → ℕ → ℕ
requests_on k m = sum_by (λ e. request_of e.1.0) (held_tasks k m)

-- the order in which tasks are preempted: the lower price first, at one price the greater request, and then the lesser id
abbrev pub preempt_cmp : HeldTask → HeldTask → Ordering
preempt_cmp a b = ordering_then (ordering_then (nat_cmp a.price b.price) (nat_cmp b.request a.request)) (nat_cmp a.task b.task)

abbrev pub comes_before : HeldTask → HeldTask → Bool
comes_before a b = is_lt (preempt_cmp a b)

-- the task put before the first that it comes before
abbrev pub put_before : HeldTask → List HeldTask → List HeldTask
put_before e [] = e ∷ []
put_before e (x ∷ xs) = cond (comes_before e x) (e ∷ x ∷ xs) (x ∷ put_before e xs)

-- the tasks in that order
abbrev pub ordered : List HeldTask → List HeldTask
ordered [] = []
ordered (x ∷ xs) = put_before x (ordered xs)

-- what all of the tasks request but those that come before this one: what it requests with those behind it
abbrev pub requests_from : List HeldTask → HeldTask → ℕ
requests_from es e = sum_by (λ u. cond (comes_before u e) 0 u.request) es

-- that is more than the bandwidth
abbrev pub is_preempted : List HeldTask → ℕ → HeldTask → Bool
is_preempted es nic e = nat_lt nic (requests_from es e)

-- the tasks of which that is so, in their order
abbrev pub preempted : List HeldTask → ℕ → List HeldTask
preempted es nic = filter (is_preempted es nic) (ordered es)

-- what the tasks request that stay
abbrev pub requests_left : List HeldTask → ℕ → ℕ
requests_left es nic = sum_by (λ e. cond (is_preempted es nic e) 0 e.request) es

-- an open machine whose tasks request more than its bandwidth
abbrev pub overfull_at : Table → ℕ → Option OverfullMachine
overfull_at k m = and_then (λ state. when (nat_lt state.nic (requests_on k m)) (record { machine = m; held = requests_on k m; nic = state.nic; preempts = preempted (tasks_on k m) state.nic })) (open_state k m)

-- all of these machines, by id
unfoldable pub relief_of : Table → List OverfullMachine
relief_of k = filter_map (λ e. overfull_at k e.0) k.machines

abbrev pub as_preempt : HeldTask → Preempt
as_preempt e = record { task = e.task; attempt = e.attempt }

-- the plan that preempts all of the tasks, in their order, and places none
abbrev pub plan_of_relief : List OverfullMachine → Plan
plan_of_relief relief = record { places = []; preempts = flat_map (λ r. map as_preempt r.preempts) relief }
