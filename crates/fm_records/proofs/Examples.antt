-- The definitions computed on small examples. Each list of operations is also told in another order and with repeats.
use Rattle.std.proofs.Common.{◌≡◌, ℕ, ◌+◌, true, false, List, [], ◌∷◌, ◌++◌, Some, None, map, refl}
use Rattle.fm_records.specs.declared.ops.Field.TheVariants as field
use Rattle.fm_records.specs.declared.ops.Phase.TheVariants.{Pending, Running, Done}
use Rattle.fm_records.specs.declared.ops.Op.{Op}
use Rattle.fm_records.specs.declared.ops.Op.TheVariants as op
use Rattle.fm_records.specs.declared.records.SpecReg.{SpecReg}
use Rattle.std.specs.declared.cmp.Ordering.TheVariants.{Less}
use Rattle.fm_records.specs.Orders.{spec_cmp}
use Rattle.fm_records.specs.Ops.{op_fault}
use Rattle.fm_records.specs.Table.{Table}
use Rattle.fm_records.specs.Know.{table_of, winner}
use Rattle.fm_records.specs.OpsOfTable.{ops, spec_op}
use Rattle.fm_records.specs.Ranges.{all_in_range}
use Rattle.fm_records.specs.Joined.{table_join}
use Rattle.fm_records.specs.Facts.{job_of, spec_of, progress_of, attempt_of, machine_state, used_of, job_stands, is_live, is_open, winner_of, holder_of, held_tasks, load_of, spare_of, request_of, has_room}
use Rattle.fm_records.specs.SetFacts.{live, holder, load, spare, room}

-- ids near the greatest that there are
abbrev big : ℕ
big = 340282366920938463463374607431768210000

abbrev J : ℕ
J = big + 1

abbrev A : ℕ
A = big + 10

abbrev B : ℕ
B = big + 11

abbrev t1 : ℕ
t1 = big + 17

abbrev t2 : ℕ
t2 = big + 18

abbrev the_job : Op
the_job = op.Job J 1 1 false 500 800

abbrev machine_a : Op
machine_a = op.Machine A 1 1 1 true 2 1000

abbrev machine_b : Op
machine_b = op.Machine B 1 1 1 true 2 1000

abbrev task_of : ℕ → ℕ → Op
task_of t request = op.Spec t 1 1 false J request []

-- A job, a machine and a task: the task waits, and all of the machine is spare.

abbrev one_task : List Op
one_task = the_job ∷ machine_a ∷ task_of t1 100 ∷ []

abbrev one_task_known : Table
one_task_known = record {
  jobs = (J, record { version = 1; writer = 1; withdrawn = false; wait = 500; preempt = 800 }) ∷ [];
  tasks = (t1, (Some (record { version = 1; writer = 1; withdrawn = false; job = J; request = 100; prefer = [] }), record { attempt = 0; phase = Pending })) ∷ [];
  machines = (A, (1, (Some (record { version = 1; writer = 1; up = true; slots = 2; nic = 1000 }), None))) ∷ [];
  proposals = [];
}

one_task-table : table_of one_task ≡ one_task_known
one_task-table = refl

one_task-other_order : table_of (machine_a ∷ task_of t1 100 ∷ the_job ∷ task_of t1 100 ∷ machine_a ∷ []) ≡ one_task_known
one_task-other_order = refl

one_task-spelled : table_of (ops one_task_known) ≡ one_task_known
one_task-spelled = refl

one_task-in_range : all_in_range (ops one_task_known) ≡ true
one_task-in_range = refl

one_task-live : is_live (table_of one_task) t1 ≡ true
one_task-live = refl

one_task-not_held : holder_of (table_of one_task) t1 ≡ None
one_task-not_held = refl

one_task-spare : spare_of (table_of one_task) A ≡ Some 1000
one_task-spare = refl

-- A task whose job is not known is not live, and the machine is open all the same.

job_unknown-live : is_live (table_of (machine_a ∷ task_of t1 100 ∷ [])) t1 ≡ false
job_unknown-live = refl

job_unknown-open : is_open (table_of (machine_a ∷ task_of t1 100 ∷ [])) A ≡ true
job_unknown-open = refl

-- Of two registers of one version and one writer the greater wait counts, told in either order.

abbrev dearer_job : Op
dearer_job = op.Job J 1 1 false 600 800

same_version-first : job_of (table_of (one_task ++ dearer_job ∷ [])) J ≡ Some (record { version = 1; writer = 1; withdrawn = false; wait = 600; preempt = 800 })
same_version-first = refl

same_version-last : table_of (dearer_job ∷ one_task) ≡ table_of (one_task ++ dearer_job ∷ one_task)
same_version-last = refl

-- Two coordinators propose: the least wins, told in either order.

abbrev two_proposals : List Op
two_proposals = one_task ++ machine_b ∷ op.Propose t1 0 2 B 1 ∷ op.Propose t1 0 1 A 1 ∷ []

two_proposals-winner : winner_of (table_of two_proposals) t1 0 ≡ Some (1, record { machine = A; incarnation = 1 })
two_proposals-winner = refl

two_proposals-winner_of_set : winner two_proposals (t1, 0) ≡ Some (1, record { machine = A; incarnation = 1 })
two_proposals-winner_of_set = refl

two_proposals-other_order : table_of (op.Propose t1 0 1 A 1 ∷ machine_b ∷ op.Propose t1 0 2 B 1 ∷ one_task ++ one_task) ≡ table_of two_proposals
two_proposals-other_order = refl

two_proposals-holder : holder_of (table_of two_proposals) t1 ≡ Some A
two_proposals-holder = refl

two_proposals-load : load_of (table_of two_proposals) A ≡ 100
two_proposals-load = refl

-- The report of the greater number counts, also if another comes later.

abbrev reported : List Op
reported = one_task ++ op.Report A 1 3 950 ∷ op.Report A 1 2 0 ∷ []

reported-used : used_of (table_of reported) A ≡ 950
reported-used = refl

reported-spare : spare_of (table_of reported) A ≡ Some 50
reported-spare = refl

reported-no_room : has_room (table_of reported) A 100 ≡ false
reported-no_room = refl

reported-other_order : table_of (op.Report A 1 2 0 ∷ op.Report A 1 3 950 ∷ one_task ++ op.Report A 1 2 0 ∷ []) ≡ table_of reported
reported-other_order = refl

-- A proposal of the present attempt makes the machine hold the task, until a later incarnation is told.

abbrev held : List Op
held = one_task ++ op.Propose t1 0 1 A 1 ∷ []

held-holder : holder_of (table_of held) t1 ≡ Some A
held-holder = refl

held-spare : spare_of (table_of held) A ≡ Some 900
held-spare = refl

abbrev restarted : List Op
restarted = held ++ op.Report A 2 1 0 ∷ []

restarted-closed : is_open (table_of restarted) A ≡ false
restarted-closed = refl

restarted-holder : holder_of (table_of restarted) t1 ≡ None
restarted-holder = refl

restarted-live : is_live (table_of restarted) t1 ≡ true
restarted-live = refl

restarted-no_room : has_room (table_of restarted) A 0 ≡ false
restarted-no_room = refl

restarted-spelled : table_of (ops (table_of restarted)) ≡ table_of restarted
restarted-spelled = refl

restarted-other_order : table_of (op.Report A 2 1 0 ∷ held ++ op.Report A 2 1 0 ∷ held) ≡ table_of restarted
restarted-other_order = refl

-- A request of 0 has room while the use is no more than the nic, and none beyond.

abbrev used_by : ℕ → List Op
used_by used = the_job ∷ machine_a ∷ task_of t1 0 ∷ op.Report A 1 1 used ∷ []

used_by-load : load_of (table_of (used_by 40)) A ≡ 40
used_by-load = refl

used_by-room : has_room (table_of (used_by 40)) A 0 ≡ true
used_by-room = refl

used_by-all : has_room (table_of (used_by 1000)) A 0 ≡ true
used_by-all = refl

used_by-more : spare_of (table_of (used_by 1001)) A ≡ None
used_by-more = refl

used_by-no_room : has_room (table_of (used_by 1001)) A 0 ≡ false
used_by-no_room = refl

-- The request of a held task takes room from the next.

abbrev two_tasks : List Op
two_tasks = op.Job J 1 1 false 700 800 ∷ machine_a ∷ task_of t1 600 ∷ task_of t2 500 ∷ []

two_tasks-room : has_room (table_of two_tasks) A 600 ≡ true
two_tasks-room = refl

two_tasks-placed : spare_of (table_of (op.Propose t1 0 1 A 1 ∷ two_tasks)) A ≡ Some 400
two_tasks-placed = refl

two_tasks-no_room : has_room (table_of (op.Propose t1 0 1 A 1 ∷ two_tasks)) A 500 ≡ false
two_tasks-no_room = refl

-- A machine holds a task until the task's next attempt begins.

abbrev one_slot : List Op
one_slot = op.Job J 1 1 false 500 80 ∷ op.Machine A 1 1 1 true 1 1000 ∷ task_of t1 100 ∷ op.Propose t1 0 1 A 1 ∷ task_of t2 0 ∷ op.Report A 1 1 0 ∷ []

one_slot-load : load_of (table_of one_slot) A ≡ 100
one_slot-load = refl

one_slot-held : map (λ e. e.0) (held_tasks (table_of one_slot) A) ≡ t1 ∷ []
one_slot-held = refl

one_slot-preempted : progress_of (table_of (op.Progress t1 1 Pending ∷ one_slot)) t1 ≡ record { attempt = 1; phase = Pending }
one_slot-preempted = refl

one_slot-free : holder_of (table_of (op.Progress t1 1 Pending ∷ one_slot)) t1 ≡ None
one_slot-free = refl

-- A winner that names a machine that is not known holds nothing.

abbrev last_attempt : List Op
last_attempt = one_task ++ op.Progress t1 4294967295 Running ∷ op.Propose t1 4294967295 1 B 1 ∷ []

last_attempt-attempt : attempt_of (table_of last_attempt) t1 ≡ 4294967295
last_attempt-attempt = refl

last_attempt-winner : winner_of (table_of last_attempt) t1 4294967295 ≡ Some (1, record { machine = B; incarnation = 1 })
last_attempt-winner = refl

last_attempt-holder : holder_of (table_of last_attempt) t1 ≡ None
last_attempt-holder = refl

-- A later attempt beats one that is done, and a task that is done is not live.

done-live : is_live (table_of (op.Progress t1 0 Done ∷ one_task)) t1 ≡ false
done-live = refl

done-again : is_live (table_of (op.Progress t1 1 Pending ∷ op.Progress t1 0 Done ∷ one_task)) t1 ≡ true
done-again = refl

-- A job that is withdrawn makes its task not live, and so held by no machine; the machine has all of its nic again. Of
-- two registers of one version and one writer, the one that is withdrawn counts. A newer version brings the job back.

abbrev job_withdrawn : List Op
job_withdrawn = held ++ op.Job J 1 1 true 500 800 ∷ []

job_withdrawn-register : job_of (table_of job_withdrawn) J ≡ Some (record { version = 1; writer = 1; withdrawn = true; wait = 500; preempt = 800 })
job_withdrawn-register = refl

job_withdrawn-stands : job_stands (table_of job_withdrawn) J ≡ false
job_withdrawn-stands = refl

job_withdrawn-live : is_live (table_of job_withdrawn) t1 ≡ false
job_withdrawn-live = refl

job_withdrawn-winner : winner_of (table_of job_withdrawn) t1 0 ≡ Some (1, record { machine = A; incarnation = 1 })
job_withdrawn-winner = refl

job_withdrawn-holder : holder_of (table_of job_withdrawn) t1 ≡ None
job_withdrawn-holder = refl

job_withdrawn-spare : spare_of (table_of job_withdrawn) A ≡ Some 1000
job_withdrawn-spare = refl

job_withdrawn-other_order : table_of (op.Job J 1 1 true 500 800 ∷ held) ≡ table_of job_withdrawn
job_withdrawn-other_order = refl

job_withdrawn-again : holder_of (table_of (job_withdrawn ++ op.Job J 2 1 false 500 800 ∷ [])) t1 ≡ Some A
job_withdrawn-again = refl

-- A spec that is withdrawn makes that task not live, and no other.

abbrev spec_withdrawn : List Op
spec_withdrawn = held ++ task_of t2 200 ∷ op.Propose t2 0 1 A 1 ∷ op.Spec t1 2 1 true J 100 [] ∷ []

spec_withdrawn-spec : spec_of (table_of spec_withdrawn) t1 ≡ Some (record { version = 2; writer = 1; withdrawn = true; job = J; request = 100; prefer = [] })
spec_withdrawn-spec = refl

spec_withdrawn-live : is_live (table_of spec_withdrawn) t1 ≡ false
spec_withdrawn-live = refl

spec_withdrawn-other_live : is_live (table_of spec_withdrawn) t2 ≡ true
spec_withdrawn-other_live = refl

spec_withdrawn-holder : holder_of (table_of spec_withdrawn) t1 ≡ None
spec_withdrawn-holder = refl

spec_withdrawn-held : map (λ e. e.0) (held_tasks (table_of spec_withdrawn) A) ≡ t2 ∷ []
spec_withdrawn-held = refl

spec_withdrawn-load : load_of (table_of spec_withdrawn) A ≡ 200
spec_withdrawn-load = refl

-- A machine that is down is not open: it holds nothing, has no spare and no room, and what it reported still loads it.

abbrev down : List Op
down = held ++ op.Report A 1 1 40 ∷ op.Machine A 1 2 1 false 2 1000 ∷ []

down-state : machine_state (table_of down) A ≡ Some (record { version = 2; writer = 1; up = false; slots = 2; nic = 1000 })
down-state = refl

down-open : is_open (table_of down) A ≡ false
down-open = refl

down-live : is_live (table_of down) t1 ≡ true
down-live = refl

down-holder : holder_of (table_of down) t1 ≡ None
down-holder = refl

down-load : load_of (table_of down) A ≡ 40
down-load = refl

down-spare : spare_of (table_of down) A ≡ None
down-spare = refl

down-no_room : has_room (table_of down) A 0 ≡ false
down-no_room = refl

down-other_order : table_of (op.Machine A 1 2 1 false 2 1000 ∷ op.Report A 1 1 40 ∷ held) ≡ table_of down
down-other_order = refl

-- Of two states of one version and one writer the one that is up counts; in a later version the machine is up again.

down-up : is_open (table_of (op.Machine A 1 1 1 false 2 1000 ∷ machine_a ∷ [])) A ≡ true
down-up = refl

down-again : holder_of (table_of (down ++ op.Machine A 1 3 1 true 2 1000 ∷ [])) t1 ≡ Some A
down-again = refl

-- The facts of the sets themselves, with no table between.

of_set-held : holder held t1 ≡ Some A
of_set-held = refl

of_set-load : load spec_withdrawn A ≡ 200
of_set-load = refl

of_set-two : map (λ o. request_of o) (live two_tasks t1 ∷ live two_tasks t2 ∷ []) ≡ 600 ∷ 500 ∷ []
of_set-two = refl

of_set-spare : spare two_proposals A ≡ Some 900
of_set-spare = refl

of_set-restarted : spare restarted A ≡ None
of_set-restarted = refl

of_set-job_withdrawn : live job_withdrawn t1 ≡ None
of_set-job_withdrawn = refl

of_set-down : room down A 0 ≡ false
of_set-down = refl

-- A proposal alone makes a row of proposals and no task.

proposed-table : table_of (op.Propose t1 0 3 B 2 ∷ op.Propose t1 0 3 A 7 ∷ []) ≡ record { jobs = []; tasks = []; machines = []; proposals = ((t1, 0), (3, record { machine = A; incarnation = 7 }) ∷ []) ∷ [] }
proposed-table = refl

-- Parts that are joined in any order, and more than once, are the whole.

abbrev later_job : Op
later_job = op.Job J 2 1 false 600 800

joined-parts : table_join (table_of (later_job ∷ [])) (table_join (table_of (the_job ∷ [])) (table_of (later_job ∷ []))) ≡ table_of (the_job ∷ later_job ∷ [])
joined-parts = refl

joined-incarnations : table_join (table_of restarted) (table_of held) ≡ table_join (table_of held) (table_of restarted)
joined-incarnations = refl

-- The first field out of range, in the order of the fields.

slots_first : op_fault (op.Machine A 1 1 1 true 0 1000001) ≡ Some field.Slots
slots_first = refl

greatest_wait : op_fault (op.Job J 1 1 false 1000000000 800) ≡ None
greatest_wait = refl

wait_beyond : op_fault (op.Job J 1 1 false 1000000001 800) ≡ Some field.Wait
wait_beyond = refl

writer_first : op_fault (op.Job J 1 65 false 1000000001 800) ≡ Some field.Writer
writer_first = refl

-- Machines that are preferred rise, and are tested after the request.

abbrev preferring : ℕ → List (ℕ × ℕ) → Op
preferring request prefer = op.Spec t1 1 1 false J request prefer

prefer_rises : op_fault (preferring 100 ((A, 0) ∷ (B, 1000000000) ∷ [])) ≡ None
prefer_rises = refl

prefer_falls : op_fault (preferring 100 ((B, 1) ∷ (A, 1) ∷ [])) ≡ Some field.Prefer
prefer_falls = refl

prefer_twice : op_fault (preferring 100 ((A, 1) ∷ (A, 2) ∷ [])) ≡ Some field.Prefer
prefer_twice = refl

credit_beyond : op_fault (preferring 100 ((A, 1000000001) ∷ [])) ≡ Some field.Prefer
credit_beyond = refl

request_first : op_fault (preferring 1000001 ((B, 1) ∷ (A, 1) ∷ [])) ≡ Some field.Request
request_first = refl

-- Of two specs of one version that are equal except for their preferences, the one counts whose list comes later: a
-- list that begins another is the lesser, and of two entries of one machine the greater credit counts.

abbrev prefers_A : SpecReg
prefers_A = record { version = 1; writer = 1; withdrawn = false; job = J; request = 100; prefer = (A, 1) ∷ [] }

abbrev prefers_both : SpecReg
prefers_both = record { version = 1; writer = 1; withdrawn = false; job = J; request = 100; prefer = (A, 1) ∷ (B, 1) ∷ [] }

longer_wins : spec_of (table_of (spec_op t1 prefers_A ∷ spec_op t1 prefers_both ∷ [])) t1 ≡ Some prefers_both
longer_wins = refl

longer_wins-other_order : spec_of (table_of (spec_op t1 prefers_both ∷ spec_op t1 prefers_A ∷ [])) t1 ≡ Some prefers_both
longer_wins-other_order = refl

credit_before_length : spec_cmp prefers_both (record { version = 1; writer = 1; withdrawn = false; job = J; request = 100; prefer = (A, 2) ∷ [] }) ≡ Less
credit_before_length = refl

prefers_both-spelled : table_of (ops (table_of (spec_op t1 prefers_both ∷ []))) ≡ table_of (spec_op t1 prefers_both ∷ [])
prefers_both-spelled = refl

prefers_both-in_range : all_in_range (spec_op t1 prefers_both ∷ []) ≡ true
prefers_both-in_range = refl

prefers_five-in_range : all_in_range (preferring 100 ((1, 0) ∷ (2, 0) ∷ (3, 0) ∷ (4, 0) ∷ (5, 0) ∷ []) ∷ []) ≡ false
prefers_five-in_range = refl
