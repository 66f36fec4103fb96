-- The facts on a table: what is live, open and held, and what a machine has left (this project's profile, after
-- Firmament's network-aware policy).
use Rattle.std.specs.Prelude.{ℕ, ◌-◌, Bool, true, false, cond, not, nat_le, ◌==◌, ◌&&◌, List, [], ◌∷◌, Option, Some, None, option_map, filter, max, sum_by}
use Rattle.std.specs.Ordering.{nat_cmp}
use Rattle.fm_lattice.specs.Maps.{lookup}
use Rattle.fm_records.specs.declared.ops.Phase.{Phase}
use Rattle.fm_records.specs.declared.ops.Phase.TheVariants.{Pending, Running, Done}
use Rattle.fm_records.specs.declared.records.JobReg.{JobReg}
use Rattle.fm_records.specs.declared.records.SpecReg.{SpecReg}
use Rattle.fm_records.specs.declared.records.Progress.{Progress}
use Rattle.fm_records.specs.declared.records.MachineReg.{MachineReg}
use Rattle.fm_records.specs.declared.records.Report.{Report}
use Rattle.fm_records.specs.declared.records.Spot.{Spot}
pub use Rattle.fm_records.specs.Options.{and_then, passes, only_if}
use Rattle.fm_records.specs.Options.{or_else, when}
use Rattle.fm_records.specs.Orders.{attempt_cmp}
use Rattle.fm_records.specs.Table.{Table, TaskValue}
use Rattle.fm_records.specs.Know.{initial_progress}

abbrev pub head_option : {A : Type 0} → List A → Option A
head_option [] = None
head_option (x ∷ xs) = Some x

-- the records
abbrev pub job_of : Table → ℕ → Option JobReg
job_of k j = lookup nat_cmp j k.jobs

abbrev pub spec_of : Table → ℕ → Option SpecReg
spec_of k t = and_then (λ v. v.0) (lookup nat_cmp t k.tasks)

-- attempt 0 pending if no record is known
abbrev pub progress_of : Table → ℕ → Progress
progress_of k t = or_else initial_progress (option_map (λ v. v.1) (lookup nat_cmp t k.tasks))

abbrev pub attempt_of : Table → ℕ → ℕ
attempt_of k t = (progress_of k t).attempt

abbrev pub incarnation_of : Table → ℕ → Option ℕ
incarnation_of k m = option_map (λ v. v.0) (lookup nat_cmp m k.machines)

abbrev pub machine_state : Table → ℕ → Option MachineReg
machine_state k m = and_then (λ v. v.1.0) (lookup nat_cmp m k.machines)

abbrev pub report_of : Table → ℕ → Option Report
report_of k m = and_then (λ v. v.1.1) (lookup nat_cmp m k.machines)

-- the reported use, 0 if no report is known
abbrev pub used_of : Table → ℕ → ℕ
used_of k m = or_else 0 (option_map (λ r. r.used) (report_of k m))

-- the entries for an attempt, by coordinator
abbrev pub entries_of : Table → ℕ × ℕ → List (ℕ × Spot)
entries_of k at = or_else [] (lookup attempt_cmp at k.proposals)

-- the winner of an attempt: the entry of the least coordinator that has one
abbrev pub winner_of : Table → ℕ → ℕ → Option (ℕ × Spot)
winner_of k t a = head_option (entries_of k (t, a))

abbrev pub is_done : Phase → Bool
is_done Pending = false
is_done Running = false
is_done Done = true

-- the job is known and not withdrawn
abbrev pub job_stands : Table → ℕ → Bool
job_stands k j = passes (λ r. not r.withdrawn) (job_of k j)

-- the spec of a live task: known and not withdrawn, of a job that stands, and not done
abbrev pub live_spec : Table → ℕ → Option SpecReg
live_spec k t = only_if (λ s. not s.withdrawn && job_stands k s.job && not (is_done (progress_of k t).phase)) (spec_of k t)

abbrev pub is_live : Table → ℕ → Bool
is_live k t = passes (λ s. true) (live_spec k t)

-- the state of an open machine: known and up
abbrev pub open_state : Table → ℕ → Option MachineReg
open_state k m = only_if (λ r. r.up) (machine_state k m)

abbrev pub is_open : Table → ℕ → Bool
is_open k m = passes (λ r. true) (open_state k m)

-- the machine at the spot is open and at its present incarnation
abbrev pub is_present : Table → Spot → Bool
is_present k s = is_open k s.machine && passes (λ i. i == s.incarnation) (incarnation_of k s.machine)

-- the spot that the winner of a task's present attempt names
abbrev pub won_spot : Table → ℕ → Option Spot
won_spot k t = option_map (λ w. w.1) (winner_of k t (attempt_of k t))

-- the machine that holds a live task: the one that the winner of its present attempt names, if it is present
abbrev pub holder_of : Table → ℕ → Option ℕ
holder_of k t = cond (is_live k t) (option_map (λ s. s.machine) (only_if (is_present k) (won_spot k t))) None

abbrev pub holds : Table → ℕ → ℕ → Bool
holds k m t = passes (λ h. h == m) (holder_of k t)

-- the records of the tasks that the machine holds
abbrev pub held_tasks : Table → ℕ → List (ℕ × TaskValue)
held_tasks k m = filter (λ e. holds k m e.0) k.tasks

abbrev pub request_of : Option SpecReg → ℕ
request_of None = 0
request_of (Some s) = s.request

-- the greater of the reported use and the sum of the requests of all held tasks
abbrev pub load_of : Table → ℕ → ℕ
load_of k m = max (used_of k m) (sum_by (λ e. request_of e.1.0) (held_tasks k m))

-- what the load leaves of an open machine's nic, none if the load is greater
abbrev pub spare_of : Table → ℕ → Option ℕ
spare_of k m = and_then (λ r. when (nat_le (load_of k m) r.nic) (r.nic - load_of k m)) (open_state k m)

-- there is a spare, and it is the request or more
abbrev pub has_room : Table → ℕ → ℕ → Bool
has_room k m request = passes (λ s. nat_le request s) (spare_of k m)
