-- The records of a packet as lines of text (this project's profile).
use Rattle.std.specs.Prelude.{◌≡◌, ◌⊎◌, ℕ, ◌-◌, nat_eq, List, [], ◌++◌, length, take, drop, Bool, if◌then◌else◌, codes, decimal, Option, Some, None, option_map, Ok, Err}
use Rattle.std.specs.List.{flat_map}
use Rattle.std.specs.Cmp.Lexicographic.{pointwise}
use Rattle.hex.specs.declared.error.FromHexError.{FromHexError}
use Rattle.hex.specs.Hex.{decode_of}
use Rattle.fm_records.specs.declared.ops.Phase.{Phase}
use Rattle.fm_records.specs.declared.ops.Phase.TheVariants.{Pending, Running, Done}
use Rattle.fm_records.specs.declared.records.JobReg.{JobReg}
use Rattle.fm_records.specs.declared.records.SpecReg.{SpecReg}
use Rattle.fm_records.specs.declared.records.MachineReg.{MachineReg}
use Rattle.fm_records.specs.declared.records.Report.{Report}
use Rattle.fm_records.specs.declared.records.Spot.{Spot}
use Rattle.fm_records.specs.declared.refusal.Refusal.{Refusal}
use Rattle.fm_records.specs.declared.refusal.Refusal.TheVariants.{OutOfMemory, BadScript, BadPacket}
use Rattle.fm_records.specs.Ids.{id_text}
use Rattle.fm_records.specs.Table.{TaskValue, MachineValue, Table}
use Rattle.fm_delta.specs.declared.packet.Packet.{Packet}
use Rattle.fm_wire.specs.Grammar.{Spells, IsSpelling, fault}

abbrev pub flag_text : Bool → List ℕ
flag_text b = if b then codes "true" else codes "false"

abbrev pub phase_text : Phase → List ℕ
phase_text Pending = codes "pending"
phase_text Running = codes "running"
phase_text Done = codes "done"

-- job ID VERSION WRITER WITHDRAWN WAIT PREEMPT
abbrev pub job_line : ℕ × JobReg → List ℕ
job_line e =
    codes "job " ++ (id_text e.0 ++ (codes " " ++ (decimal e.1.version ++ (codes " " ++ (decimal e.1.writer ++ (codes " "
    ++ (flag_text e.1.withdrawn ++ (codes " " ++ (decimal e.1.wait ++ (codes " " ++ (decimal e.1.preempt ++ codes "\n")))))))))))

-- MACHINE CREDIT for each machine that is preferred
abbrev pub preferred_text : ℕ × ℕ → List ℕ
preferred_text e = codes " " ++ (id_text e.0 ++ (codes " " ++ decimal e.1))

-- spec ID VERSION WRITER WITHDRAWN JOB REQUEST and the machines that are preferred, if a spec is known
abbrev pub spec_line : ℕ → Option SpecReg → List ℕ
spec_line task None = []
spec_line task (Some r) =
    codes "spec " ++ (id_text task ++ (codes " " ++ (decimal r.version ++ (codes " " ++ (decimal r.writer ++ (codes " "
    ++ (flag_text r.withdrawn ++ (codes " " ++ (id_text r.job ++ (codes " " ++ (decimal r.request ++ (flat_map preferred_text r.prefer ++ codes "\n"))))))))))))

-- task ID ATTEMPT PHASE, and its spec's line
abbrev pub task_lines : ℕ × TaskValue → List ℕ
task_lines e =
    (codes "task " ++ (id_text e.0 ++ (codes " " ++ (decimal e.1.1.attempt ++ (codes " " ++ (phase_text e.1.1.phase ++ codes "\n"))))))
    ++ spec_line e.0 e.1.0

-- state ID VERSION WRITER UP SLOTS NIC, if a state is known
abbrev pub state_line : ℕ → Option MachineReg → List ℕ
state_line machine None = []
state_line machine (Some r) =
    codes "state " ++ (id_text machine ++ (codes " " ++ (decimal r.version ++ (codes " " ++ (decimal r.writer ++ (codes " "
    ++ (flag_text r.up ++ (codes " " ++ (decimal r.slots ++ (codes " " ++ (decimal r.nic ++ codes "\n")))))))))))

-- report ID NUMBER USED, if a report is known
abbrev pub report_line : ℕ → Option Report → List ℕ
report_line machine None = []
report_line machine (Some r) =
    codes "report " ++ (id_text machine ++ (codes " " ++ (decimal r.number ++ (codes " " ++ (decimal r.used ++ codes "\n")))))

-- machine ID INCARNATION, and the lines of its state and its report
abbrev pub machine_lines : ℕ × MachineValue → List ℕ
machine_lines e =
    (codes "machine " ++ (id_text e.0 ++ (codes " " ++ (decimal e.1.0 ++ codes "\n"))))
    ++ (state_line e.0 e.1.1.0 ++ report_line e.0 e.1.1.1)

-- propose TASK ATTEMPT COORDINATOR MACHINE INCARNATION, by coordinator
abbrev pub proposal_line : ℕ × ℕ → ℕ × Spot → List ℕ
proposal_line at e =
    codes "propose " ++ (id_text at.0 ++ (codes " " ++ (decimal at.1 ++ (codes " " ++ (decimal e.0 ++ (codes " "
    ++ (id_text e.1.machine ++ (codes " " ++ (decimal e.1.incarnation ++ codes "\n")))))))))

abbrev pub proposal_lines : (ℕ × ℕ) × List (ℕ × Spot) → List ℕ
proposal_lines e = flat_map (proposal_line e.0) e.1

-- the records of jobs, tasks, machines and proposals
abbrev pub records_text : Table → List ℕ
records_text k = flat_map job_line k.jobs ++ (flat_map task_lines k.tasks ++ (flat_map machine_lines k.machines ++ flat_map proposal_lines k.proposals))

-- packet SENDER NUMBER, and then its records
abbrev pub unpacked_text : Packet → List ℕ
unpacked_text p = (codes "packet " ++ (decimal p.sender ++ (codes " " ++ (decimal p.number ++ codes "\n")))) ++ records_text p.value

-- the text without a line feed at its end
abbrev pub ends_line : List ℕ → Bool
ends_line text = pointwise nat_eq (drop (length text - 1) text) (codes "\n")

abbrev pub without_line_feed : List ℕ → List ℕ
without_line_feed text = if ends_line text then take (length text - 1) text else text

-- the digits spell the bytes of a packet, of either version
pub record IsPacketIn (digits : List ℕ) (packet : Packet) : Type 0 where
  pub bytes : List ℕ
  pub decoded : decode_of digits ≡ Ok bytes
  pub spelled : Spells bytes packet

-- they are no digits, or their bytes are no packet's and the refusal names the first fault; or memory ran out
abbrev pub IsNoPacketIn : List ℕ → Refusal → Type 0
IsNoPacketIn digits refusal =
    (refusal ≡ OutOfMemory)
    ⊎ (((refusal ≡ BadScript 0) × (e : FromHexError) × (decode_of digits ≡ Err e))
    ⊎ ((bytes : List ℕ) × (decode_of digits ≡ Ok bytes) × (option_map BadPacket (fault bytes) ≡ Some refusal)))

-- the digits encode a packet's bytes; or they are no digits, or their bytes have that fault first
abbrev pub IsFaultOf : List ℕ → Option Refusal → Type 0
IsFaultOf digits None = (bytes : List ℕ) × (decode_of digits ≡ Ok bytes) × IsSpelling bytes
IsFaultOf digits (Some e) =
    ((e ≡ BadScript 0) × (why : FromHexError) × (decode_of digits ≡ Err why))
    ⊎ ((bytes : List ℕ) × (decode_of digits ≡ Ok bytes) × (option_map BadPacket (fault bytes) ≡ Some e))

-- the text is the lines of the packet that the input spells, with at most one line feed behind its digits
pub record IsUnpacked (input text : List ℕ) : Type 0 where
  pub packet : Packet
  pub packet_in : IsPacketIn (without_line_feed input) packet
  pub lines : text ≡ unpacked_text packet

-- the input, without a line feed at its end, spells no packet
abbrev pub IsNotUnpacked : List ℕ → Refusal → Type 0
IsNotUnpacked input = IsNoPacketIn (without_line_feed input)
