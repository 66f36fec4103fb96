-- Worked examples, computed from the definitions.
use Rattle.std.proofs.Common.{◌≡◌, ℕ, true, false, List, [], ◌∷◌, ◌++◌, refl}
use Rattle.fm_records.specs.declared.ops.Phase.TheVariants.{Pending, Running}
use Rattle.fm_records.specs.declared.ops.Op.{Op}
use Rattle.fm_records.specs.declared.ops.Op.TheVariants as op
use Rattle.fm_records.specs.Know.{table_of}
use Rattle.fm_records.specs.Facts.{progress_of, load_of}
use Rattle.fm_net.specs.declared.node.Node.TheVariants as node
use Rattle.fm_round.specs.declared.plan.Place.{Place}
use Rattle.fm_round.specs.declared.plan.Preempt.{Preempt}
use Rattle.fm_round.specs.declared.plan.Answer.{Answer}
use Rattle.fm_round.specs.declared.plan.Answer.TheVariants.{Gone, Held, AttemptsSpent, Contested, NoSlot, NoRoom, Accepted}
use Rattle.fm_round.specs.declared.plan.Plan.{Plan}
use Rattle.fm_round.specs.declared.plan.Admitted.{Admitted}
use Rattle.fm_round.specs.Admission.{told, admission}
use Rattle.fm_round.specs.Stopping.{stops_of}
use Rattle.fm_round.specs.PlanOfFlow.{ArcUnits, plan_of_flow}

abbrev J : ℕ
J = 1

abbrev A : ℕ
A = 10

abbrev B : ℕ
B = 11

abbrev t1 : ℕ
t1 = 17

abbrev t2 : ℕ
t2 = 18

abbrev machine_A : Op
machine_A = op.Machine A 1 1 1 true 2 1000

abbrev machine_B : Op
machine_B = op.Machine B 1 1 1 true 2 1000

abbrev spec_1 : Op
spec_1 = op.Spec t1 1 1 false J 100 []

abbrev known : List Op
known = op.Job J 1 1 false 500 800 ∷ machine_A ∷ machine_B ∷ spec_1 ∷ []

abbrev place : ℕ → ℕ → ℕ → Place
place t m i = record { task = t; machine = m; incarnation = i }

abbrev preempt : ℕ → ℕ → Preempt
preempt t a = record { task = t; attempt = a }

abbrev only_place : Place → Plan
only_place p = record { places = p ∷ []; preempts = [] }

abbrev only_preempt : Preempt → Plan
only_preempt p = record { places = []; preempts = p ∷ [] }

abbrev only : Answer → Admitted
only a = record { ops = []; answers = a ∷ [] }

-- stops of two proposals
abbrev both : List Op
both = known ++ op.Propose t1 0 2 B 1 ∷ op.Propose t1 0 1 A 1 ∷ []

stops_of_two : stops_of (table_of both) 2 ≡ record { task = t1; attempt = 0; machine = B; incarnation = 1 } ∷ []
stops_of_two = refl

stops_of_one : stops_of (table_of both) 1 ≡ []
stops_of_one = refl

-- two places of which one finds no room
abbrev tight : List Op
tight = op.Job J 1 1 false 700 800 ∷ machine_A ∷ op.Spec t1 1 1 false J 600 [] ∷ op.Spec t2 1 1 false J 500 [] ∷ []

abbrev tight_flow : ArcUnits
tight_flow =
    ((node.Request 500, node.Machine A), 1) ∷ ((node.Request 600, node.Machine A), 1) ∷ ((node.Machine A, node.Sink), 2)
    ∷ ((node.Task t1, node.Request 600), 1) ∷ ((node.Task t2, node.Request 500), 1) ∷ []

tight_plan : plan_of_flow tight_flow (table_of tight) ≡ record { places = place t1 A 1 ∷ place t2 A 1 ∷ []; preempts = [] }
tight_plan = refl

tight_outcome : admission (table_of tight) 1 (record { places = place t1 A 1 ∷ place t2 A 1 ∷ []; preempts = [] }) ≡ record { ops = op.Propose t1 0 1 A 1 ∷ []; answers = Accepted ∷ NoRoom ∷ [] }
unfolding told
tight_outcome = refl

-- a swap: the place finds no slot, the preempt goes
abbrev swap : List Op
swap =
    op.Job J 1 1 false 500 80 ∷ op.Machine A 1 1 1 true 1 1000 ∷ spec_1 ∷ op.Spec t2 1 1 false J 0 []
    ∷ op.Report A 1 1 0 ∷ op.Propose t1 0 1 A 1 ∷ []

swap_load : load_of (table_of swap) A ≡ 100
swap_load = refl

abbrev swap_flow : ArcUnits
swap_flow =
    ((node.Unscheduled J, node.Sink), 1) ∷ ((node.Request 0, node.Machine A), 1) ∷ ((node.Machine A, node.Sink), 1)
    ∷ ((node.Task t1, node.Unscheduled J), 1) ∷ ((node.Task t2, node.Request 0), 1) ∷ []

abbrev swap_plan : Plan
swap_plan = plan_of_flow swap_flow (table_of swap)

swap_planned : swap_plan ≡ record { places = place t2 A 1 ∷ []; preempts = preempt t1 0 ∷ [] }
swap_planned = refl

swap_outcome : admission (table_of swap) 1 swap_plan ≡ record { ops = op.Progress t1 1 Pending ∷ []; answers = NoSlot ∷ Accepted ∷ [] }
unfolding told
swap_outcome = refl

swap_progress : progress_of (told (table_of swap) (admission (table_of swap) 1 swap_plan).ops) t1 ≡ record { attempt = 1; phase = Pending }
unfolding told
swap_progress = refl

-- in the next round the other task goes where the first one was
abbrev freed : List Op
freed = swap ++ op.Progress t1 1 Pending ∷ []

abbrev freed_flow : ArcUnits
freed_flow =
    ((node.Unscheduled J, node.Sink), 1) ∷ ((node.Request 0, node.Machine A), 1) ∷ ((node.Machine A, node.Sink), 1)
    ∷ ((node.Task t1, node.Unscheduled J), 1) ∷ ((node.Task t2, node.Request 0), 1) ∷ []

freed_plan : plan_of_flow freed_flow (table_of freed) ≡ record { places = place t2 A 1 ∷ []; preempts = [] }
freed_plan = refl

freed_outcome : admission (table_of freed) 1 (only_place (place t2 A 1)) ≡ record { ops = op.Propose t2 0 1 A 1 ∷ []; answers = Accepted ∷ [] }
unfolding told
freed_outcome = refl

-- two tasks of one request: the first goes to the first machine
abbrev pair : List Op
pair = known ++ op.Spec t2 1 1 false J 100 [] ∷ []

abbrev pair_flow : ArcUnits
pair_flow =
    ((node.Request 100, node.Machine A), 1) ∷ ((node.Request 100, node.Machine B), 1)
    ∷ ((node.Machine A, node.Sink), 1) ∷ ((node.Machine B, node.Sink), 1)
    ∷ ((node.Task t1, node.Request 100), 1) ∷ ((node.Task t2, node.Request 100), 1) ∷ []

pair_plan : plan_of_flow pair_flow (table_of pair) ≡ record { places = place t1 A 1 ∷ place t2 B 1 ∷ []; preempts = [] }
pair_plan = refl

-- the last attempt
abbrev spent : List Op
spent = op.Job J 1 1 false 500 800 ∷ machine_A ∷ spec_1 ∷ op.Progress t1 4294967295 Running ∷ op.Propose t1 4294967295 1 B 1 ∷ []

spent_place : admission (table_of spent) 1 (only_place (place t1 A 1)) ≡ only AttemptsSpent
unfolding told
spent_place = refl

-- a winner of no present incarnation
abbrev stale : List Op
stale = known ++ op.Propose t1 0 1 B 2 ∷ []

stale_place : admission (table_of stale) 1 (only_place (place t1 A 1)) ≡ record { ops = op.Progress t1 1 Pending ∷ op.Propose t1 1 1 A 1 ∷ []; answers = Accepted ∷ [] }
unfolding told
stale_place = refl

contested_place : admission (table_of (stale ++ op.Propose t1 1 1 B 1 ∷ [])) 2 (only_place (place t1 A 1)) ≡ only Contested
unfolding told
contested_place = refl

-- held, and proposals for the next attempt
abbrev held : List Op
held = known ++ op.Propose t1 0 1 A 1 ∷ op.Propose t1 1 1 B 1 ∷ []

held_preempt : admission (table_of held) 1 (only_preempt (preempt t1 0)) ≡ only Contested
unfolding told
held_preempt = refl

gone_preempt : admission (table_of held) 1 (only_preempt (preempt t1 1)) ≡ only Gone
unfolding told
gone_preempt = refl

held_place : admission (table_of held) 1 (only_place (place t1 A 1)) ≡ only Held
unfolding told
held_place = refl

gone_place : admission (table_of held) 1 (only_place (place t1 A 2)) ≡ only Gone
unfolding told
gone_place = refl

-- a unit straight to a machine places its task there, beside one that takes its request's seat, and moves no task that is held
abbrev straight : List Op
straight = op.Job J 1 1 false 500 800 ∷ machine_A ∷ op.Spec t1 1 1 false J 100 ((A, 30) ∷ []) ∷ op.Spec t2 1 1 false J 100 [] ∷ []

abbrev straight_flow : ArcUnits
straight_flow =
    ((node.Request 100, node.Machine A), 1) ∷ ((node.Machine A, node.Sink), 2)
    ∷ ((node.Task t1, node.Machine A), 1) ∷ ((node.Task t2, node.Request 100), 1) ∷ []

straight_plan : plan_of_flow straight_flow (table_of straight) ≡ record { places = place t1 A 1 ∷ place t2 A 1 ∷ []; preempts = [] }
straight_plan = refl

straight_held : plan_of_flow straight_flow (table_of (op.Propose t1 0 1 A 1 ∷ straight)) ≡ record { places = place t2 A 1 ∷ []; preempts = [] }
straight_held = refl
