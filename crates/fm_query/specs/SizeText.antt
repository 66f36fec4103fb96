-- How much a coordinator knows, as lines (this project's profile).
use Rattle.std.specs.Prelude.{ℕ, not, List, ◌++◌, length, count_by, sum_by, is_some, if◌then◌else◌, codes, decimal}
use Rattle.std.specs.Option.{unwrap_or}
use Rattle.fm_records.specs.Table.{Table, TaskValue, MachineValue}
use Rattle.fm_records.specs.Facts.{is_live, holder_of, request_of, is_open, used_of, spare_of}
use Rattle.fm_query.specs.ListText.{is_waiting}

-- all proposals: of each attempt that has any, one for each coordinator
abbrev pub proposal_count : Table → ℕ
proposal_count k = sum_by (λ e. length e.1) k.proposals

-- how many tasks wait: they are live, and no machine holds them
abbrev pub waiting_count : Table → ℕ
waiting_count k = count_by (λ e. is_waiting k e.0) k.tasks

-- how many tasks a machine holds
abbrev pub held_count : Table → ℕ
held_count k = count_by (λ e. is_some (holder_of k e.0)) k.tasks

-- how many tasks are over: they are not live
abbrev pub over_count : Table → ℕ
over_count k = count_by (λ e. not (is_live k e.0)) k.tasks

-- how many machines are open
abbrev pub open_count : Table → ℕ
open_count k = count_by (λ e. is_open k e.0) k.machines

-- how many machines are closed
abbrev pub closed_count : Table → ℕ
closed_count k = count_by (λ e. not (is_open k e.0)) k.machines

-- the request of a task that a machine holds; 0 of any other
abbrev pub held_request : Table → ℕ × TaskValue → ℕ
held_request k e = if is_some (holder_of k e.0) then request_of e.1.0 else 0

-- the requests of all tasks that a machine holds
abbrev pub requested_sum : Table → ℕ
requested_sum k = sum_by (held_request k) k.tasks

-- the use that an open machine reported; 0 of a machine that is not open
abbrev pub open_use : Table → ℕ × MachineValue → ℕ
open_use k e = if is_open k e.0 then used_of k e.0 else 0

-- the uses that all open machines reported
abbrev pub reported_sum : Table → ℕ
reported_sum k = sum_by (open_use k) k.machines

-- what its load leaves of the bandwidth of an open machine, 0 if the load is greater; 0 of a machine that is not open
abbrev pub open_spare : Table → ℕ × MachineValue → ℕ
open_spare k e = unwrap_or (spare_of k e.0) 0

-- what all open machines have left
abbrev pub spare_sum : Table → ℕ
spare_sum k = sum_by (open_spare k) k.machines

-- NAME VALUE
abbrev pub size_line : List ℕ → ℕ → List ℕ
size_line name value = name ++ (codes " " ++ (decimal value ++ codes "\n"))

-- so many records of each kind are known
abbrev pub record_lines : ℕ → ℕ → ℕ → ℕ → List ℕ
record_lines jobs machines tasks proposals =
    size_line (codes "jobs") jobs ++ (size_line (codes "machines") machines
    ++ (size_line (codes "tasks") tasks ++ size_line (codes "proposals") proposals))

-- so many tasks wait, are held, and are over; so many machines are open, and are closed
abbrev pub place_lines : ℕ → ℕ → ℕ → ℕ → ℕ → List ℕ
place_lines waiting held over opened closed =
    size_line (codes "waiting") waiting ++ (size_line (codes "held") held ++ (size_line (codes "over") over
    ++ (size_line (codes "open") opened ++ size_line (codes "closed") closed)))

-- so much bandwidth is requested, reported and to spare
abbrev pub bandwidth_lines : ℕ → ℕ → ℕ → List ℕ
bandwidth_lines requested reported spare =
    size_line (codes "requested") requested ++ (size_line (codes "reported") reported
    ++ size_line (codes "spare") spare)

-- how much is known
abbrev pub known_size_text : Table → List ℕ
known_size_text k =
    record_lines (length k.jobs) (length k.machines) (length k.tasks) (proposal_count k)
    ++ (place_lines (waiting_count k) (held_count k) (over_count k) (open_count k) (closed_count k)
    ++ bandwidth_lines (requested_sum k) (reported_sum k) (spare_sum k))

-- so many entries of so many that there may be; the first delta that is kept, and the next one
abbrev pub history_lines : ℕ → ℕ → ℕ → ℕ → List ℕ
history_lines entries limit first next =
    size_line (codes "entries") entries ++ (size_line (codes "limit") limit
    ++ (size_line (codes "first") first ++ size_line (codes "next") next))

-- how much a coordinator knows, how long its history is, and how many bytes a packet of all that it knows has
abbrev pub size_text : Table → ℕ → ℕ → ℕ → ℕ → ℕ → List ℕ
size_text k entries limit first next packet =
    known_size_text k ++ (history_lines entries limit first next ++ size_line (codes "packet") packet)
