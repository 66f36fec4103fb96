-- The text that says why a task waits or runs (this project's profile).
use Rattle.std.specs.Prelude.{◌≡◌, ℕ, Bool, ◌+◌, ◌-◌, ◌==◌, List, [], ◌++◌, if◌then◌else◌, codes, decimal, length, take, Option, Some, None, slice_get}
use Rattle.std.specs.List.{zip}
use Rattle.fm_records.specs.declared.records.JobReg.{JobReg}
use Rattle.fm_records.specs.declared.records.SpecReg.{SpecReg}
use Rattle.fm_records.specs.Facts.{job_of, spec_of, progress_of, is_done}
use Rattle.fm_records.specs.Ids.{id_text}
use Rattle.fm_records.specs.Options.{passes}
use Rattle.fm_records.specs.Table.{Table}
use Rattle.fm_net.specs.declared.node.Node.{Node}
use Rattle.fm_net.specs.declared.node.Node.TheVariants.{Sink, Unscheduled, Request, Machine, Task}
use Rattle.fm_why.specs.declared.reasons.TheConstants.{SHOWN}
use Rattle.fm_why.specs.declared.reasons.Change.{Change}
use Rattle.fm_why.specs.declared.reasons.Change.TheVariants.{Slot, Bandwidth}
use Rattle.fm_why.specs.declared.reasons.Choice.{Choice}
use Rattle.fm_why.specs.declared.reasons.Choices.{Choices}
use Rattle.fm_why.specs.declared.reasons.Alternative.{Alternative}
use Rattle.fm_why.specs.declared.reasons.Move.{Move}
use Rattle.fm_why.specs.declared.reasons.Remedy.{Remedy}
use Rattle.fm_why.specs.declared.reasons.Reasons.{Reasons}
use Rattle.fm_why.specs.declared.reasons.Reasons.TheVariants.{Unknown, NotLive, Held, Free}
use Rattle.fm_why.specs.Reasons.{AreReasons}
use Rattle.fm_query.specs.TextLines.{text_of_lines}

-- a schedule was found that runs the task on the machine, and costs no more than each must
abbrev pub is_exact : ℕ → Choice → Option Alternative → Bool
is_exact least e found = passes (λ example. example.cost == least + e.dearer) found

-- the same of the cheapest machine
abbrev pub is_first_exact : Choices → Choice → Bool
is_first_exact c e = passes (is_exact c.least e) (slice_get c.examples.items 0)

abbrev pub bound_text : Choices → Choice → List ℕ
bound_text c e = if is_first_exact c e then codes "exactly " ++ (decimal e.dearer ++ codes " more\n") else codes "at least " ++ (decimal e.dearer ++ codes " more\n")

-- what it would take to run a task that waits: what the cheapest machine with room costs, if there is one
abbrev pub waiting_text : Choices → Option Choice → List ℕ
waiting_text c None = codes " waits: no machine has room for its request of " ++ (decimal c.request ++ codes "\n")
waiting_text c (Some e) =
    codes " waits, which costs " ++ (decimal c.wait ++ (codes ": running it on the cheapest machine with room would cost " ++ bound_text c e))

-- a task that runs in the schedule that was found
abbrev pub running_text : Choices → List ℕ
running_text c = codes " runs in this schedule: leaving it to wait would cost at least " ++ (decimal c.waiting ++ codes " more\n")

abbrev pub answer_line : ℕ → Choices → List ℕ
answer_line task c = codes "task " ++ (id_text task ++ (if c.waits then waiting_text c (slice_get c.machines.items 0) else running_text c))

-- what the schedule costs
abbrev pub reason_cost_line : Choices → List ℕ
reason_cost_line c = codes "this schedule costs " ++ (decimal c.least ++ codes ", and none costs less\n")

-- up to which price of waiting the schedule stays least, if it leaves the task waiting and a machine has room
abbrev pub price_text : Option ℕ → List ℕ
price_text None = []
price_text (Some price) = codes "it stays least while the price of waiting is " ++ (decimal price ++ codes " or less for this task, and as it is for all others\n")

abbrev pub price_line : Choices → List ℕ
price_line c = if c.waits then price_text c.price else []

-- a change of a machine
abbrev pub change_text : Change → List ℕ
change_text Slot = codes "with 1 more slot"
change_text (Bandwidth by) = codes "with " ++ (decimal by ++ codes " more bandwidth")

-- where the task would run then
abbrev pub remedy_place_text : Remedy → List ℕ
remedy_place_text e = if e.place == e.machine then codes " it would run there" else codes " it would run on machine " ++ id_text e.place

-- what that costs
abbrev pub remedy_end : Remedy → List ℕ
remedy_end e = codes ": the schedule then costs " ++ (decimal e.cost ++ codes ", and none costs less")

-- a change by which the task would run
abbrev pub remedy_text : Remedy → List ℕ
remedy_text e = change_text e.change ++ (codes " on machine " ++ (id_text e.machine ++ (remedy_place_text e ++ remedy_end e)))

abbrev pub remedies_text : Choices → List ℕ
remedies_text c = text_of_lines remedy_text c.remedies.items

-- what the schedule costs, until when that is least, and the changes by which the task would run
abbrev pub schedule_text : Choices → List ℕ
schedule_text c = reason_cost_line c ++ (price_line c ++ remedies_text c)

-- where a task goes in a schedule
abbrev pub goal_text : Node → List ℕ
goal_text Sink = []
goal_text (Unscheduled j) = codes " waits"
goal_text (Request r) = codes " goes over its request of " ++ decimal r
goal_text (Machine m) = codes " runs on machine " ++ id_text m
goal_text (Task t) = []

abbrev pub move_text : Move → List ℕ
move_text move = codes "in it task " ++ (id_text move.task ++ goal_text move.to)

-- a schedule that runs the task on the machine: what it costs, and the first five of the tasks that go elsewhere in it
abbrev pub example_head : Choice → Alternative → List ℕ
example_head e example =
    codes "a schedule that runs it on machine " ++ (id_text e.machine ++ (codes " costs " ++ (decimal example.cost
    ++ (codes "; tasks that go elsewhere in it: " ++ (decimal (length example.moves.items) ++ codes "\n")))))

abbrev pub example_text : Option Choice → Option (Option Alternative) → List ℕ
example_text (Some e) (Some (Some example)) = example_head e example ++ text_of_lines move_text (take 5 example.moves.items)
example_text _ _ = []

-- how much dearer each schedule is that runs the task on the machine
abbrev pub at_least_text : Choice → List ℕ
at_least_text e = codes ", and each schedule that runs it there costs at least " ++ (decimal e.dearer ++ codes " more")

-- a schedule was found that is just so much dearer
abbrev pub exact_text : Choice → List ℕ
exact_text e = codes ", and the cheapest schedule that runs it there costs exactly " ++ (decimal e.dearer ++ codes " more")

-- one was found that is dearer than that
abbrev pub beyond_text : ℕ → Choice → Alternative → List ℕ
beyond_text least e example = at_least_text e ++ (codes "; one was found that costs " ++ (decimal (example.cost - least) ++ codes " more"))

abbrev pub dearer_text : ℕ → Choice → Option Alternative → List ℕ
dearer_text least e None = at_least_text e
dearer_text least e (Some example) = if is_exact least e (Some example) then exact_text e else beyond_text least e example

-- a machine with room: what the way there costs, and how much dearer schedules are that use it
abbrev pub choice_text : ℕ → Choice × Option Alternative → List ℕ
choice_text least e = codes "on machine " ++ (id_text e.0.machine ++ (codes " it costs " ++ (decimal e.0.cost ++ dearer_text least e.0 e.1)))

-- the cheapest machines, each with the schedule that was found for it
abbrev pub listed_text : Choices → List ℕ
listed_text c = text_of_lines (choice_text c.least) (zip c.machines.items c.examples.items)

-- an example of the cheapest machine, and the cheapest machines
abbrev pub machines_text : Choices → List ℕ
machines_text c = example_text (slice_get c.machines.items 0) (slice_get c.examples.items 0) ++ listed_text c

-- the machines behind those that are listed, from the first of them on
abbrev pub others_text : ℕ → Option Choice → List ℕ
others_text more None = []
others_text more (Some e) = codes "on each of " ++ (decimal more ++ (codes " other machines with room at least " ++ (decimal e.dearer ++ codes " more\n")))

abbrev pub room_line : Choices → List ℕ
room_line c = codes "room for its request of " ++ (decimal c.request ++ (codes " on " ++ (decimal (length c.machines.items) ++ (codes " of " ++ (decimal c.known ++ codes " machines that are known\n")))))

-- the theory
abbrev pub theory_line : List ℕ
theory_line = codes "by potentials that certify the schedule: what is sent over an empty arc costs at least its reduced cost more\n"

-- the answer, the schedule, an example and the cheapest machines, how many more there are, and the theory
abbrev pub choices_text : ℕ → Choices → List ℕ
choices_text task c =
    answer_line task c ++ (schedule_text c ++ (machines_text c ++ (others_text (length c.machines.items - SHOWN) (slice_get c.machines.items SHOWN) ++ (room_line c ++ theory_line))))

abbrev pub held_reason_text : ℕ → ℕ → List ℕ
held_reason_text task machine = codes "task " ++ (id_text task ++ (codes " is held by machine " ++ (id_text machine ++ codes "\n")))

-- why a task is not live whose spec is not withdrawn, and which is not done: a job that is known is then withdrawn
abbrev pub job_cause : Option JobReg → List ℕ
job_cause None = codes "its job is not known"
job_cause (Some job) = codes "its job is withdrawn"

-- why a task that is not live is not: the first of these that holds
abbrev pub not_live_cause : Table → ℕ → Option SpecReg → List ℕ
not_live_cause k task None = codes "its spec is not known"
not_live_cause k task (Some spec) =
    if spec.withdrawn then codes "it is withdrawn"
    else if is_done (progress_of k task).phase then codes "it is done"
    else job_cause (job_of k spec.job)

abbrev pub not_live_text : Table → ℕ → List ℕ
not_live_text k task = codes "task " ++ (id_text task ++ (codes " is not live: " ++ (not_live_cause k task (spec_of k task) ++ codes "\n")))

abbrev pub unknown_text : ℕ → List ℕ
unknown_text task = codes "task " ++ (id_text task ++ codes " is not known\n")

abbrev pub reasons_text : Table → ℕ → Reasons → List ℕ
reasons_text k task Unknown = unknown_text task
reasons_text k task NotLive = not_live_text k task
reasons_text k task (Held machine) = held_reason_text task machine
reasons_text k task (Free c) = choices_text task c

-- the text is that of true reasons of the task, by what is known
pub record IsReasonsText (k : Table) (task : ℕ) (text : List ℕ) : Type 0 where
  pub reasons : Reasons
  pub are : AreReasons k task reasons
  pub is : text ≡ reasons_text k task reasons
