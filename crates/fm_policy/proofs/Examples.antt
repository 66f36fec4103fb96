-- A delta's keys, and rooms, computed.
use Rattle.std.proofs.Common.{◌≡◌, [], ◌∷◌, Some, None, refl}
use Rattle.fm_records.specs.declared.ops.Op.TheVariants.{Propose, Progress, Job, Machine}
use Rattle.fm_records.specs.Know.{table_of}
use Rattle.fm_records.specs.declared.ops.Phase.TheVariants.{Pending}
use Rattle.std.specs.Prelude.{true, false}
use Rattle.fm_records.specs.declared.records.MachineReg.{MachineReg}
use Rattle.fm_records.specs.Options.{and_then}
use Rattle.fm_policy.specs.Changes.{changed_keys}
use Rattle.fm_policy.specs.Rooms.{room_of, fit_in}

-- a proposal names its task alone
proposed : changed_keys (table_of (Propose 17 0 1 10 1 ∷ [])) ≡ record { jobs = []; tasks = 17 ∷ []; machines = [] }
proposed = refl

-- each key once, and rising: a job, a machine, and tasks by progress or by a proposal
mixed : changed_keys (table_of (Propose 18 1 1 10 1 ∷ Progress 17 1 Pending ∷ Propose 17 1 1 10 1 ∷ Machine 10 1 1 1 true 2 1000 ∷ Job 1 1 1 false 500 800 ∷ [])) ≡ record { jobs = 1 ∷ []; tasks = 17 ∷ 18 ∷ []; machines = 10 ∷ [] }
mixed = refl

-- a machine with 4 slots and a bandwidth of 1000
abbrev state : MachineReg
state = record { version = 1; writer = 1; up = true; slots = 4; nic = 1000 }

-- beside a load of 900, three tasks of request 30 fit, at a cost of 930 each, one of request 100, and none of 101; as many of
-- request 0 as there are slots
three_fit : and_then (λ room. fit_in room 30) (room_of state 900) ≡ Some (3, 930)
three_fit = refl

one_fits : and_then (λ room. fit_in room 100) (room_of state 900) ≡ Some (1, 1000)
one_fits = refl

none_fits : and_then (λ room. fit_in room 101) (room_of state 900) ≡ None
none_fits = refl

slots_fit : and_then (λ room. fit_in room 0) (room_of state 900) ≡ Some (4, 900)
slots_fit = refl

-- a machine with more load than bandwidth has no room
overloaded : room_of state 1001 ≡ None
overloaded = refl
