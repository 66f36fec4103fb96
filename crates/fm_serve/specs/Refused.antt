-- The page of refusals (this project's profile).
use Rattle.std.specs.Prelude.{ℕ, ◌+◌, ◌-◌, List, [], ◌∷◌, ◌++◌, cond, nat_lt, codes}
use Rattle.fm_records.specs.declared.ops.Field.TheVariants.{Writer}
use Rattle.fm_records.specs.declared.refusal.Refusal.{Refusal}
use Rattle.fm_records.specs.declared.refusal.Refusal.TheVariants.{OutOfMemory, BadOp, HistoryFull, BadInterval, Trimmed, BadPacket, Uncertified, NoCoordinator, NoPacket, InboxFull, InboxEmpty, Stuck, NotMine, VersionsSpent, AttemptsSpent, BadScript, WriteFault, BadDimacs}
use Rattle.fm_records.specs.Refusals.{refusal_number}
use Rattle.fm_store.specs.declared.store_fault.StoreFault.{StoreFault}
use Rattle.fm_store.specs.declared.store_fault.StoreFault.TheVariants as store
use Rattle.fm_store.specs.Stores.{fault_number}
use Rattle.fm_serve.specs.Faults.{status_of}
use Rattle.fm_serve.specs.Endings.{store_status}

-- a number below 10 as its digit: the digits begin at 48
abbrev pub digit : ℕ → List ℕ
digit n = (48 + n) ∷ []

-- a number below 30 in two columns
abbrev pub in_two : ℕ → List ℕ
in_two n = cond (nat_lt n 10) (codes " " ++ digit n) (cond (nat_lt n 20) (codes "1" ++ digit (n - 10)) (codes "2" ++ digit (n - 20)))

-- a line: the number of a refusal, the status that the program then ends with, and the cause
abbrev pub refusal_line : Refusal → List ℕ → List ℕ
refusal_line r cause = in_two (refusal_number r) ++ (codes "  " ++ (digit (status_of r) ++ (codes "       " ++ (cause ++ codes "\n"))))

-- the same for a fault of a store
abbrev pub store_line : StoreFault → List ℕ → List ℕ
store_line f cause = in_two (fault_number f) ++ (codes "  " ++ (digit (store_status f) ++ (codes "       " ++ (cause ++ codes "\n"))))

-- the page: how a refusal is said, and the refusals by their numbers, whatever they carry
abbrev pub refusals_text : List ℕ
refusals_text =
    codes "A run that is stopped says `firmament: refusal N`, and ` at step K` if a step caused it, counted from 1.\n\n N  status  cause\n"
    ++ refusal_line OutOfMemory (codes "there was not enough memory")
    ++ refusal_line (BadOp Writer) (codes "a field of an operation is out of its range")
    ++ refusal_line HistoryFull (codes "a history has as many entries as its limit")
    ++ refusal_line BadInterval (codes "a cut ends before it starts or beyond the end, or a trim is below the floor or beyond the end")
    ++ refusal_line (Trimmed 0) (codes "a cut starts below the floor: what it asks for was trimmed")
    ++ refusal_line (BadPacket 0) (codes "the digits spell no packet")
    ++ refusal_line Uncertified (codes "a flow was not certified")
    ++ refusal_line NoCoordinator (codes "no coordinator has the number")
    ++ refusal_line NoPacket (codes "no packet was cut under the name")
    ++ refusal_line InboxFull (codes "an inbox has as many packets as it takes")
    ++ refusal_line InboxEmpty (codes "an inbox has no packet")
    ++ refusal_line Stuck (codes "histories cannot be gathered into one list of steps")
    ++ refusal_line (NotMine 0) (codes "a seat is missing, or its list is not in the history")
    ++ refusal_line VersionsSpent (codes "there is no greater version")
    ++ refusal_line AttemptsSpent (codes "there is no later attempt")
    ++ refusal_line (BadScript 0) (codes "the input is no script, or a step breaks a rule")
    ++ refusal_line WriteFault (codes "the output could not be written")
    ++ refusal_line (BadDimacs 0) (codes "the text is no network")
    ++ store_line (store.Damaged 0) (codes "the file is no store, or damaged: the place of the damage is told, counted from 0")
    ++ store_line store.OtherCluster (codes "a store cannot be used: its file cannot be read or written, is locked, or is another cluster's")
