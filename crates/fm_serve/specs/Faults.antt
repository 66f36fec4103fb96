-- The statuses and texts with which the program stops (this project's profile).
use Rattle.std.specs.Prelude.{ℕ, ◌==◌, List, ◌++◌, cond, codes, decimal, Option, Some, None}
use Rattle.fm_records.specs.declared.refusal.Refusal.{Refusal}
use Rattle.fm_records.specs.declared.refusal.Refusal.TheVariants as refusal
use Rattle.fm_records.specs.Refusals.{refusal_number}
use Rattle.fm_serve.specs.declared.fault.Fault.{Fault}

-- a fault of the step at the place, counted from 1, and one of no step
abbrev pub fault_at : ℕ → Refusal → Fault
fault_at place r = record { refusal = r; step = Some place }

abbrev pub fault_of : Refusal → Fault
fault_of r = record { refusal = r; step = None }

-- memory 4, no agreement 5, output 6, the solver 7, and else the script 3
abbrev pub status_of : Refusal → ℕ
status_of refusal.OutOfMemory = 4
status_of refusal.Stuck = 5
status_of (refusal.NotMine seat) = 5
status_of refusal.WriteFault = 6
status_of refusal.Uncertified = 7
status_of _ = 3

-- the line that says what was refused, and where
abbrev pub step_text : Option ℕ → List ℕ
step_text None = codes "\n"
step_text (Some place) = codes " at step " ++ (decimal place ++ codes "\n")

abbrev pub fault_text : Fault → List ℕ
fault_text f = codes "firmament: refusal " ++ (decimal (refusal_number f.refusal) ++ step_text f.step)

-- the fault of a script that was not read: of the step that it names, if any
abbrev pub script_fault_of : Refusal → Fault
script_fault_of (refusal.BadScript step) = cond (step == 0) (fault_of (refusal.BadScript step)) (fault_at step (refusal.BadScript step))
script_fault_of r = fault_of r
