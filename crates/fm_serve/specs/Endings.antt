-- How the program ends (this project's profile).
use Rattle.std.specs.Prelude.{ℕ, string_bytes, List, [], ◌∷◌, ◌++◌, cond, codes, decimal, Option, Some, None, Result, Ok, Err}
use Rattle.fm_records.specs.declared.refusal.Refusal.TheVariants.{NoCoordinator}
use Rattle.fm_serve.specs.declared.fault.Fault.{Fault}
use Rattle.fm_serve.specs.declared.ending.Ending.{Ending}
use Rattle.fm_store.specs.declared.device.DeviceFault.TheVariants as device
use Rattle.fm_store.specs.declared.store_fault.StoreFault.{StoreFault}
use Rattle.fm_store.specs.declared.store_fault.StoreFault.TheVariants as store
use Rattle.fm_store.specs.Stores.{fault_number}
use Rattle.fm_serve.specs.declared.ending.Ending.TheVariants.{Done, Differ, AtFault, Wrong, Stopped, Unusable}
use Rattle.fm_serve.specs.Faults.{fault_of, status_of, fault_text}
use Rattle.fm_script.specs.Script.{is_listed}
use Rattle.fm_script.specs.declared.script_fault.ScriptFault.{ScriptFault}

-- the status for a fault of a store: memory 4, damage 8, and else 9
abbrev pub store_status : StoreFault → ℕ
store_status store.OutOfMemory = 4
store_status (store.Device device.OutOfMemory) = 4
store_status (store.Device device.Failed) = 9
store_status (store.Device device.Locked) = 9
store_status (store.Device device.Replaced) = 9
store_status (store.Device device.Unsupported) = 9
store_status (store.Damaged place) = 8
store_status store.OtherCluster = 9

-- the line about it: its number, and the place of the damage or what cannot be used
abbrev pub store_cause : StoreFault → List ℕ
store_cause store.OutOfMemory = codes "\n"
store_cause (store.Device device.OutOfMemory) = codes "\n"
store_cause (store.Device device.Failed) = codes ", since the file of the store cannot be used\n"
store_cause (store.Device device.Locked) = codes ", since another process has the store\n"
store_cause (store.Device device.Replaced) = codes ", since the file of the store was removed or replaced\n"
store_cause (store.Device device.Unsupported) = codes ", since the file system cannot lock the file of the store or keep others from reading it\n"
store_cause (store.Damaged place) = codes " at byte " ++ (decimal place ++ codes "\n")
store_cause store.OtherCluster = codes ", since the store is another cluster's\n"

abbrev pub store_text : StoreFault → List ℕ
store_text f = codes "firmament: refusal " ++ (decimal (fault_number f) ++ store_cause f)

-- 0 if all is done, 5 if coordinators do not know the same, 3 if a script that was checked is at fault, 2 if the words were
-- wrong, and else the fault's status, also that of a store
abbrev pub ending_status : Ending → ℕ
ending_status Done = 0
ending_status Differ = 5
ending_status AtFault = 3
ending_status (Wrong text) = 2
ending_status (Stopped fault) = status_of fault.refusal
ending_status (Unusable fault) = store_status fault

-- what is said on standard error: nothing if there is an output, what is wrong with the words, or the fault's line
abbrev pub ending_text : Ending → List ℕ
ending_text Done = []
ending_text Differ = []
ending_text AtFault = []
ending_text (Wrong text) = string_bytes text
ending_text (Stopped fault) = fault_text fault
ending_text (Unusable fault) = store_text fault

-- how a check of a script ends, by its first fault
abbrev pub ending_checked : Option ScriptFault → Ending
ending_checked None = Done
ending_checked (Some fault) = AtFault

-- the coordinator that is asked: the one named, if it is listed, and the first listed if none is named
abbrev pub coordinator_asked : List ℕ → Option ℕ → Result ℕ Fault
coordinator_asked listed (Some number) = cond (is_listed listed number) (Ok number) (Err (fault_of NoCoordinator))
coordinator_asked [] None = Err (fault_of NoCoordinator)
coordinator_asked (first ∷ others) None = Ok first
