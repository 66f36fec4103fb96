-- Parts of a tally, of records at hand.
use Rattle.std.specs.Prelude.{ℕ, true, cond, not, List, Option, Some, None, option_map, max}
use Rattle.std.specs.List.{filter_map}
use Rattle.std.specs.Ordering.{nat_cmp}
use Rattle.fm_lattice.specs.Maps.{lookup}
use Rattle.fm_records.specs.declared.records.JobReg.{JobReg}
use Rattle.fm_records.specs.Options.{only_if, or_else, passes}
use Rattle.fm_records.specs.Sets.{with_value}
use Rattle.fm_records.specs.Table.{Table, MachineValue}
use Rattle.fm_know.specs.RecordFacts.{open_state_in, spare_left}
use Rattle.fm_tally.specs.inner.Holdings.{share_by}
use Rattle.fm_tally.specs.declared.tally.LiveTask.{LiveTask}
use Rattle.fm_tally.specs.declared.tally.OpenMachine.{OpenMachine}
use Rattle.fm_tally.specs.declared.unfinished.UnfinishedTask.{UnfinishedTask}
use Rattle.fm_tally.specs.Tallies.{open_machine_at}

-- the open machines, by id
abbrev pub all_machines : Table → List (ℕ × OpenMachine)
all_machines k = filter_map (λ e. with_value (open_machine_at k) e.0) k.machines

-- an unfinished task of the job, which the machine holds
abbrev pub live_task_of : UnfinishedTask → JobReg → Option ℕ → LiveTask
live_task_of u job holder = record { job = u.job; request = u.request; price = cond (passes (λ m. true) holder) job.preempt job.wait; holder = holder; prefers = u.prefers }

-- the same, if its job is known and not withdrawn
abbrev pub task_by : List (ℕ × JobReg) → Option ℕ → UnfinishedTask → Option LiveTask
task_by jobs holder u = option_map (λ job. live_task_of u job holder) (only_if (λ r. not r.withdrawn) (lookup nat_cmp u.job jobs))

-- what a task adds for a machine
abbrev pub requests_by : Option LiveTask → ℕ → ℕ
requests_by None m = 0
requests_by (Some l) m = share_by l.holder m l.request

abbrev pub tasks_by : Option LiveTask → ℕ → ℕ
tasks_by None m = 0
tasks_by (Some l) m = share_by l.holder m 1

-- a machine with the record, which holds so much
abbrev pub open_by : MachineValue → ℕ → ℕ → Option OpenMachine
open_by v requests tasks =
    let load = max (or_else 0 (option_map (λ r. r.used) v.1.1)) requests in
    option_map (λ state. record { slots = state.slots; load = load; spare = spare_left state.nic load; held = tasks; requests = requests }) (open_state_in v)
