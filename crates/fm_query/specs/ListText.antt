-- What is known, as lines: jobs, machines and tasks (this project's profile).
use Rattle.std.specs.Prelude.{ℕ, Bool, List, [], ◌++◌, not, ◌&&◌, is_some, if◌then◌else◌, codes, decimal, Option, Some, None}
use Rattle.std.specs.List.{flat_map}
use Rattle.fm_records.specs.declared.records.SpecReg.{SpecReg}
use Rattle.fm_records.specs.declared.records.MachineReg.{MachineReg}
use Rattle.fm_records.specs.Ids.{id_text}
use Rattle.fm_records.specs.Table.{Table, TaskValue, MachineValue}
use Rattle.fm_records.specs.Facts.{is_live, holder_of}
use Rattle.fm_tally.specs.declared.tally.OpenMachine.{OpenMachine}
use Rattle.fm_tally.specs.Tallies.{open_machine_at}
use Rattle.fm_question.specs.declared.question.Listing.{Listing}
use Rattle.fm_question.specs.declared.question.Listing.TheVariants.{All, Jobs, Machines, Tasks, Waiting}
use Rattle.fm_query.specs.Unpacked.{job_line, phase_text}

-- what a machine is by its state
abbrev pub open_text : Bool → List ℕ
open_text up = if up then codes "open" else codes "closed"

-- VERSION WRITER open|closed SLOTS NIC of a machine at its present incarnation; it is closed if no state is known
abbrev pub state_fields : Option MachineReg → List ℕ
state_fields None = codes "- - closed - -"
state_fields (Some r) =
    decimal r.version ++ (codes " " ++ (decimal r.writer ++ (codes " " ++ (open_text r.up ++ (codes " "
    ++ (decimal r.slots ++ (codes " " ++ decimal r.nic)))))))

-- what its load leaves of the bandwidth, if the load is not greater
abbrev pub spare_text : Option ℕ → List ℕ
spare_text None = codes "-"
spare_text (Some spare) = decimal spare

-- HELD LOAD SPARE of a machine that is open: how many tasks it holds, its load, and what that leaves
abbrev pub use_fields : Option OpenMachine → List ℕ
use_fields None = codes "0 0 -"
use_fields (Some o) = decimal o.held ++ (codes " " ++ (decimal o.load ++ (codes " " ++ spare_text o.spare)))

-- machine ID INCARNATION
abbrev pub machine_head : ℕ → ℕ → List ℕ
machine_head m incarnation = codes "machine " ++ (id_text m ++ (codes " " ++ (decimal incarnation ++ codes " ")))

-- machine ID INCARNATION VERSION WRITER open|closed SLOTS NIC HELD LOAD SPARE
abbrev pub listed_machine : Table → ℕ × MachineValue → List ℕ
listed_machine k e =
    machine_head e.0 e.1.0 ++ (state_fields e.1.1.0 ++ (codes " " ++ (use_fields (open_machine_at k e.0) ++ codes "\n")))

-- VERSION WRITER JOB REQUEST of a task's spec
abbrev pub spec_fields : Option SpecReg → List ℕ
spec_fields None = codes "- - - -"
spec_fields (Some r) =
    decimal r.version ++ (codes " " ++ (decimal r.writer ++ (codes " " ++ (id_text r.job ++ (codes " " ++ decimal r.request)))))

-- where a task is: the machine that holds it; or, if none does, that it waits if it is live, and else that it is over
abbrev pub task_place_text : Bool → Option ℕ → List ℕ
task_place_text live (Some machine) = codes "held " ++ id_text machine
task_place_text live None = if live then codes "waiting" else codes "over"

-- task ID ATTEMPT PHASE
abbrev pub task_head : ℕ × TaskValue → List ℕ
task_head e = codes "task " ++ (id_text e.0 ++ (codes " " ++ (decimal e.1.1.attempt ++ (codes " " ++ (phase_text e.1.1.phase ++ codes " ")))))

-- task ID ATTEMPT PHASE VERSION WRITER JOB REQUEST, and where it is
abbrev pub listed_task : Table → ℕ × TaskValue → List ℕ
listed_task k e =
    task_head e ++ (spec_fields e.1.0 ++ (codes " " ++ (task_place_text (is_live k e.0) (holder_of k e.0) ++ codes "\n")))

-- a live task that no machine holds
abbrev pub is_waiting : Table → ℕ → Bool
is_waiting k t = is_live k t && not (is_some (holder_of k t))

abbrev pub waiting_line : Table → ℕ × TaskValue → List ℕ
waiting_line k e = if is_waiting k e.0 then listed_task k e else []

-- a line for each record of the kind, by id; withdrawn and closed ones too
abbrev pub list_text : Listing → Table → List ℕ
list_text All k = flat_map job_line k.jobs ++ (flat_map (listed_machine k) k.machines ++ flat_map (listed_task k) k.tasks)
list_text Jobs k = flat_map job_line k.jobs
list_text Machines k = flat_map (listed_machine k) k.machines
list_text Tasks k = flat_map (listed_task k) k.tasks
list_text Waiting k = flat_map (waiting_line k) k.tasks
