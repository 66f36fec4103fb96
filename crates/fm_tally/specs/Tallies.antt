-- The tally of a table: what plans need of each live task and of each open machine (this project's profile).
use Rattle.std.specs.Prelude.{◌≡◌, ℕ, Bool, true, false, cond, not, ◌&&◌, List, [], ◌∷◌, Option, option_map, count_by, sum_by}
use Rattle.std.specs.Ordering.{nat_cmp}
use Rattle.fm_lattice.specs.Maps.{lookup}
use Rattle.fm_records.specs.declared.records.SpecReg.{SpecReg}
use Rattle.fm_records.specs.Options.{and_then, only_if}
use Rattle.fm_records.specs.Table.{Table, TaskValue}
use Rattle.fm_records.specs.Facts.{job_of, live_spec, open_state, holder_of, holds, held_tasks, request_of, load_of, spare_of, is_done}
use Rattle.fm_net.specs.Network.{is_held}
use Rattle.fm_tally.specs.declared.tally.LiveTask.{LiveTask}
use Rattle.fm_tally.specs.declared.tally.OpenMachine.{OpenMachine}
use Rattle.fm_tally.specs.declared.tally.Tally.{Tally}

-- there are preferences
abbrev pub has_any : List (ℕ × ℕ) → Bool
has_any [] = false
has_any (e ∷ es) = true

-- a live task: its job and request, what it costs to preempt it where it is held, and else to let it wait, and who holds it
abbrev pub task_at : Table → ℕ → Option LiveTask
task_at k t = and_then (λ s. option_map (λ job. record { job = s.job; request = s.request; price = cond (is_held k t) job.preempt job.wait; holder = holder_of k t; prefers = has_any s.prefer }) (job_of k s.job)) (live_spec k t)

-- an open machine: its slots, load and spare, how many tasks it holds, and the sum of their requests
abbrev pub open_machine_at : Table → ℕ → Option OpenMachine
open_machine_at k m = option_map (λ state. record { slots = state.slots; load = load_of k m; spare = spare_of k m; held = count_by (λ e. holds k m e.0) k.tasks; requests = sum_by (λ e. request_of e.1.0) (held_tasks k m) }) (open_state k m)

-- the tally has just the live tasks and the open machines of the table
pub record TallyIsFor (k : Table) (tally : Tally) : Type 0 where
  pub tasks : (t : ℕ) → lookup nat_cmp t tally.tasks ≡ task_at k t
  pub machines : (m : ℕ) → lookup nat_cmp m tally.machines ≡ open_machine_at k m

-- The same of records at hand.

-- the spec of a task that is known, not withdrawn and not done
abbrev pub unfinished_spec : TaskValue → Option SpecReg
unfinished_spec v = only_if (λ s. not s.withdrawn && not (is_done v.1.phase)) v.0
