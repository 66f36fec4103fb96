-- The facts of a set of operations: what is live, open and held, and what a machine has left, by the greatest that
-- the set tells (this project's profile, after Firmament's network-aware policy), without a table. A law says that
-- these are the facts on the table of the set.
use Rattle.std.specs.Prelude.{ℕ, ◌-◌, Bool, cond, not, nat_le, ◌==◌, ◌&&◌, List, Option, None, option_map, is_some, filter, max, sum_by}
use Rattle.std.specs.List.{filter_map}
use Rattle.std.specs.Ordering.{nat_cmp}
use Rattle.fm_records.specs.declared.ops.Op.{Op}
use Rattle.fm_records.specs.declared.records.SpecReg.{SpecReg}
use Rattle.fm_records.specs.declared.records.MachineReg.{MachineReg}
use Rattle.fm_records.specs.declared.records.Spot.{Spot}
use Rattle.fm_records.specs.Options.{and_then, passes, only_if, or_else, when}
use Rattle.fm_records.specs.Sets.{rising}
use Rattle.fm_records.specs.Know.{task_named, job, spec, progress, incarnation, state, report, winner}
use Rattle.fm_records.specs.Facts.{is_done, request_of}

-- the job is told of and not withdrawn
abbrev pub is_active_job : List Op → ℕ → Bool
is_active_job S j = passes (λ r. not r.withdrawn) (job S j)

-- the spec of a live task: told and not withdrawn, of a job that stands, and not done
abbrev pub live : List Op → ℕ → Option SpecReg
live S t = only_if (λ s. not s.withdrawn && is_active_job S s.job && not (is_done (progress S t).phase)) (spec S t)

-- the state of an open machine: told at its incarnation, and up
abbrev pub state_if_up : List Op → ℕ → Option MachineReg
state_if_up S m = only_if (λ r. r.up) (state S m)

-- the machine at the spot is open and at its present incarnation
abbrev pub present : List Op → Spot → Bool
present S s = is_some (state_if_up S s.machine) && passes (λ i. i == s.incarnation) (incarnation S s.machine)

-- the spot that the winner of a task's present attempt names
abbrev pub won : List Op → ℕ → Option Spot
won S t = option_map (λ w. w.1) (winner S (t, (progress S t).attempt))

-- the machine that holds a live task: the one that the winner of its present attempt names, if it is present
abbrev pub holder : List Op → ℕ → Option ℕ
holder S t = cond (is_some (live S t)) (option_map (λ s. s.machine) (only_if (present S) (won S t))) None

abbrev pub is_held_by : List Op → ℕ → ℕ → Bool
is_held_by S m t = passes (λ h. h == m) (holder S t)

-- the tasks that the set tells of, each once
abbrev pub tasks : List Op → List ℕ
tasks S = rising nat_cmp (filter_map task_named S)

-- the tasks that the machine holds
abbrev pub tasks_held : List Op → ℕ → List ℕ
tasks_held S m = filter (is_held_by S m) (tasks S)

-- the use that the machine reported, 0 if it reported none
abbrev pub use_reported : List Op → ℕ → ℕ
use_reported S m = or_else 0 (option_map (λ r. r.used) (report S m))

-- what the task requests
abbrev pub request_asked : List Op → ℕ → ℕ
request_asked S t = request_of (spec S t)

-- the greater of the reported use and the sum of the requests of all held tasks
abbrev pub load : List Op → ℕ → ℕ
load S m = max (use_reported S m) (sum_by (request_asked S) (tasks_held S m))

-- what the load leaves of an open machine's nic, none if the load is greater
abbrev pub spare : List Op → ℕ → Option ℕ
spare S m = and_then (λ r. when (nat_le (load S m) r.nic) (r.nic - load S m)) (state_if_up S m)

-- there is a spare, and it is the request or more
abbrev pub room : List Op → ℕ → ℕ → Bool
room S m request = passes (λ s. nat_le request s) (spare S m)
