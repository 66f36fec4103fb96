-- The changes of small networks, computed.
use Rattle.std.proofs.Common.{◌≡◌, true, false, List, [], ◌∷◌, refl}
use Rattle.fm_records.specs.declared.ops.Op.{Op}
use Rattle.fm_records.specs.declared.ops.Op.TheVariants as op
use Rattle.fm_records.specs.Know.{table_of}
use Rattle.fm_net.specs.declared.node.Node.TheVariants.{Sink, Unscheduled, Request, Machine, Task}
use Rattle.fm_net.specs.Network.{net_of}
use Rattle.fm_net.specs.declared.edit.Edit.TheVariants.{DropArc, DropNode, PutNode, PutArc}
use Rattle.fm_net.specs.Edits.{change}

-- a job, a machine with 2 slots, and a task that requests 100 and waits
abbrev waits : List Op
waits = op.Job 1 1 1 false 500 800 ∷ op.Machine 10 1 1 1 true 2 1000 ∷ op.Spec 17 1 1 false 1 100 [] ∷ []

-- a report that leaves no room drops the one arc
no_room : change (net_of (table_of waits)) (net_of (table_of (op.Report 10 1 1 950 ∷ waits))) ≡ DropArc (Request 100) (Machine 10) ∷ []
no_room = refl

-- and the arc of a task that prefers that machine
abbrev prefers : List Op
prefers = op.Spec 17 2 1 false 1 100 ((10, 30) ∷ []) ∷ waits

no_room_preferred : change (net_of (table_of prefers)) (net_of (table_of (op.Report 10 1 1 950 ∷ prefers))) ≡ DropArc (Request 100) (Machine 10) ∷ DropArc (Task 17) (Machine 10) ∷ []
no_room_preferred = refl

-- the arc into a machine that is preferred costs nothing once the machine holds the task
won_preferred : change (net_of (table_of prefers)) (net_of (table_of (op.Propose 17 0 1 10 1 ∷ prefers))) ≡
    DropArc (Request 100) (Machine 10) ∷ DropArc (Task 17) (Request 100) ∷ DropNode (Request 100)
    ∷ PutArc (Task 17) (Unscheduled 1) 1 800 ∷ PutArc (Task 17) (Machine 10) 1 0 ∷ []
won_preferred = refl

-- what is known already changes nothing
known : change (net_of (table_of waits)) (net_of (table_of (op.Spec 17 1 1 false 1 100 [] ∷ waits))) ≡ []
known = refl

-- a task that is won leaves its request, and the other request's arc costs more
abbrev two_wait : List Op
two_wait = op.Spec 18 1 1 false 1 50 [] ∷ waits

won : change (net_of (table_of two_wait)) (net_of (table_of (op.Propose 17 0 1 10 1 ∷ two_wait))) ≡
    DropArc (Request 100) (Machine 10) ∷ DropArc (Task 17) (Request 100) ∷ DropNode (Request 100)
    ∷ PutArc (Request 50) (Machine 10) 2 150 ∷ PutArc (Task 17) (Unscheduled 1) 1 800 ∷ PutArc (Task 17) (Machine 10) 1 0 ∷ []
won = refl

-- a job brings with it the task whose spec came before it; what is known without it has the same network as nothing known
abbrev spec_alone : List Op
spec_alone = op.Spec 17 1 1 false 1 100 [] ∷ []

nothing_yet : net_of (table_of spec_alone) ≡ net_of (table_of [])
nothing_yet = refl

job_after_spec : change (net_of (table_of spec_alone)) (net_of (table_of (op.Job 1 1 1 false 500 800 ∷ spec_alone))) ≡
    PutNode (Unscheduled 1) ∷ PutNode (Request 100) ∷ PutNode (Task 17)
    ∷ PutArc (Unscheduled 1) Sink 1 0 ∷ PutArc (Task 17) (Unscheduled 1) 1 500 ∷ PutArc (Task 17) (Request 100) 1 0 ∷ []
job_after_spec = refl

job_alone : change (net_of (table_of [])) (net_of (table_of (op.Job 1 1 1 false 500 800 ∷ []))) ≡ []
job_alone = refl
