-- The format of packets: every field, its width and its range, in their order (this project's
-- profile). There are two versions, which differ in what ends a spec. Packets are written in the second and read in
-- both; within each version there is one spelling per packet.
use Rattle.std.specs.Prelude.{◌≡◌, ℕ, ◌<◌, IsTrue, length, ◌-◌, ◌^◌, ◌==◌, ◌||◌, Bool, cond, is_some, List, [], Option, Some, None, flat_map, map}
use Rattle.std.specs.List.{AllByRecursion}
use Rattle.std.specs.Int.{w8, w32, w64, w128}
use Rattle.std.specs.Ordering.{nat_cmp, on, then_cmp}
use Rattle.std.specs.declared.cmp.Ordering.{Ordering}
use Rattle.fm_records.specs.declared.ops.TheConstants.{MOST_BANDWIDTH, MOST_PRICE, MOST_SLOTS}
use Rattle.fm_records.specs.declared.ops.Phase.{Phase}
use Rattle.fm_records.specs.declared.ops.Phase.TheVariants.{Pending, Running, Done}
use Rattle.fm_records.specs.declared.records.JobReg.{JobReg}
use Rattle.fm_records.specs.declared.records.SpecReg.{SpecReg}
use Rattle.fm_records.specs.declared.records.MachineReg.{MachineReg}
use Rattle.fm_records.specs.declared.records.Report.{Report}
use Rattle.fm_records.specs.declared.records.Spot.{Spot}
use Rattle.fm_records.specs.Ids.{is_coordinator}
use Rattle.fm_records.specs.Ranges.{CanBe}
use Rattle.fm_records.specs.Orders.{phase_place, attempt_cmp}
use Rattle.fm_records.specs.Table.{TaskValue, MachineValue}
use Rattle.fm_delta.specs.declared.packet.Packet.{Packet}
use Rattle.fm_wire.specs.declared.version.Version.{Version}
use Rattle.fm_wire.specs.declared.version.Version.TheVariants.{Fdg1, Fdg2}
use Rattle.fm_wire.specs.Formats.{Format, number_field, constant, leading, ◌⨾◌, seen_as, part, by_tag, with_count, records, fault_in}

-- the fields that several records have
abbrev pub id : Format ℕ
id = number_field w128 0 (2 ^ 128 - 1)

abbrev pub count : Format ℕ
count = number_field w64 0 (2 ^ 64 - 1)

abbrev pub attempt : Format ℕ
attempt = number_field w32 0 (2 ^ 32 - 1)

abbrev pub coordinator_field : Format ℕ
coordinator_field = number_field w8 1 64

abbrev pub flag : Format Bool
flag = seen_as (number_field w8 0 1) (λ n. n == 1) (λ b. cond b 1 0)

abbrev pub price_field : Format ℕ
price_field = number_field w32 0 MOST_PRICE

abbrev pub bandwidth : Format ℕ
bandwidth = number_field w32 0 MOST_BANDWIDTH

-- 0 pending, 1 running, 2 done
abbrev pub phase_from : ℕ → Phase
phase_from n = cond (n == 0) Pending (cond (n == 1) Running Done)

abbrev pub phase : Format Phase
phase = seen_as (number_field w8 0 2) phase_from phase_place

-- version, writer, withdrawn, wait, preempt
unfoldable pub job : Format JobReg
job = seen_as (count ⨾ coordinator_field ⨾ flag ⨾ price_field ⨾ price_field)
    (λ f. record { version = f.0; writer = f.1.0; withdrawn = f.1.1.0; wait = f.1.1.1.0; preempt = f.1.1.1.1 })
    (λ r. (r.version, (r.writer, (r.withdrawn, (r.wait, r.preempt)))))

-- the machines that a task prefers, rising and four at most, each with its credit; in the first version there are none
unfoldable pub preferences : Version → Format (List (ℕ × ℕ))
preferences Fdg1 = constant []
preferences Fdg2 = with_count w8 4 nat_cmp id price_field

-- version, writer, withdrawn, job, request, preferences
unfoldable pub spec : Version → Format SpecReg
spec v = seen_as (count ⨾ coordinator_field ⨾ flag ⨾ id ⨾ bandwidth ⨾ preferences v)
    (λ f. record { version = f.0; writer = f.1.0; withdrawn = f.1.1.0; job = f.1.1.1.0; request = f.1.1.1.1.0; prefer = f.1.1.1.1.1 })
    (λ r. (r.version, (r.writer, (r.withdrawn, (r.job, (r.request, r.prefer))))))

-- whether a spec follows: 1 if it does, else 0
abbrev pub has_of : Option SpecReg → ℕ
has_of o = cond (is_some o) 1 0

unfoldable pub optional_spec : Version → Format (Option SpecReg)
optional_spec v = by_tag 0 1 has_of (λ has. part (has == 1) (spec v))

-- attempt, phase, has, and the spec if it follows
unfoldable pub task : Version → Format TaskValue
task v = seen_as (attempt ⨾ phase ⨾ optional_spec v)
    (λ f. (f.1.1, record { attempt = f.0; phase = f.1.0 }))
    (λ v. (v.1.attempt, (v.1.phase, v.0)))

-- version, writer, up, slots, nic
unfoldable pub state : Format MachineReg
state = seen_as (count ⨾ coordinator_field ⨾ flag ⨾ number_field w32 1 MOST_SLOTS ⨾ bandwidth)
    (λ f. record { version = f.0; writer = f.1.0; up = f.1.1.0; slots = f.1.1.1.0; nic = f.1.1.1.1 })
    (λ r. (r.version, (r.writer, (r.up, (r.slots, r.nic)))))

-- number, used
unfoldable pub report : Format Report
report = seen_as (count ⨾ price_field) (λ f. record { number = f.0; used = f.1 }) (λ r. (r.number, r.used))

-- which parts follow: 1 a state, 2 a report, 3 a state and then a report
abbrev pub parts_of : Option MachineReg × Option Report → ℕ
parts_of (None, None) = 0
parts_of (Some s, None) = 1
parts_of (None, Some r) = 2
parts_of (Some s, Some r) = 3

unfoldable pub parts : Format (Option MachineReg × Option Report)
parts = by_tag 1 3 parts_of (λ parts. part (parts == 1 || parts == 3) state ⨾ part (parts == 2 || parts == 3) report)

-- incarnation, parts, and the parts that follow
unfoldable pub machine : Format MachineValue
machine = count ⨾ parts

-- machine, incarnation
unfoldable pub spot : Format Spot
spot = seen_as (id ⨾ count) (λ f. record { machine = f.0; incarnation = f.1 }) (λ s. (s.machine, s.incarnation))

-- a packet whose proposals are in one list, each under its task, attempt and coordinator
pub record Listed : Type 0 where
  pub sender : ℕ
  pub number : ℕ
  pub jobs : List (ℕ × JobReg)
  pub tasks : List (ℕ × TaskValue)
  pub machines : List (ℕ × MachineValue)
  pub entries : List (((ℕ × ℕ) × ℕ) × Spot)

-- by task, attempt and coordinator
abbrev pub entry_cmp : (ℕ × ℕ) × ℕ → (ℕ × ℕ) × ℕ → Ordering
entry_cmp = then_cmp (on (λ k. k.0) attempt_cmp) (on (λ k. k.1) nat_cmp)

-- the proposals for one attempt, each under its attempt and coordinator, and all proposals in one list
abbrev pub flat_at : ℕ × ℕ → List (ℕ × Spot) → List (((ℕ × ℕ) × ℕ) × Spot)
flat_at at spots = map (λ c. ((at, c.0), c.1)) spots

abbrev pub flat_of : List ((ℕ × ℕ) × List (ℕ × Spot)) → List (((ℕ × ℕ) × ℕ) × Spot)
flat_of = flat_map (λ e. flat_at e.0 e.1)

abbrev pub lists_of : Packet → Listed
lists_of p = record {
  sender = p.sender;
  number = p.number;
  jobs = p.value.jobs;
  tasks = p.value.tasks;
  machines = p.value.machines;
  entries = flat_of p.value.proposals;
}

-- the sender, and the number of the packet
unfoldable pub header : Format (ℕ × ℕ)
header = coordinator_field ⨾ count

-- the four lists of records
abbrev pub jobs : Format (List (ℕ × JobReg))
jobs = records nat_cmp id job

abbrev pub task_list : Version → Format (List (ℕ × TaskValue))
task_list v = records nat_cmp id (task v)

abbrev pub machines : Format (List (ℕ × MachineValue))
machines = records nat_cmp id machine

abbrev pub entry_list : Format (List (((ℕ × ℕ) × ℕ) × Spot))
entry_list = records entry_cmp ((id ⨾ attempt) ⨾ coordinator_field) spot

-- a packet as a version spells it
unfoldable pub body : Version → Format Listed
body v = seen_as (header ⨾ jobs ⨾ task_list v ⨾ machines ⨾ entry_list)
    (λ f. record { sender = f.0.0; number = f.0.1; jobs = f.1.0; tasks = f.1.1.0; machines = f.1.1.1.0; entries = f.1.1.1.1 })
    (λ p. ((p.sender, p.number), (p.jobs, (p.tasks, (p.machines, p.entries)))))

-- the word that names a version, the four bytes "FDG1" or "FDG2", and the version that is named
abbrev pub word_of : Version → ℕ
word_of Fdg1 = 0x46444731
word_of Fdg2 = 0x46444732

abbrev pub version_from : ℕ → Version
version_from word = cond (word == word_of Fdg1) Fdg1 Fdg2

-- a version, by its word; there is no number between the two words
unfoldable pub version_word : Format Version
version_word = seen_as (number_field w32 (word_of Fdg1) (word_of Fdg2)) version_from word_of

-- a packet with its version, which tells how the packet is spelled
unfoldable pub packet : Format (Version × Listed)
packet = leading version_word body

-- the bytes of a packet in a version
abbrev pub spelling_in : Version → Packet → List ℕ
spelling_in v p = packet.spell (v, lists_of p)

-- the bytes of a packet: in the version in which packets are written
abbrev pub spelling : Packet → List ℕ
spelling = spelling_in Fdg2

-- how many bytes a packet has
abbrev pub packet_size : Packet → ℕ
packet_size p = length (spelling p)

-- the place of the first fault of bytes that are no packet's, by the version that their first word names
abbrev pub fault : List ℕ → Option ℕ
fault = fault_in packet

-- a possible packet: its sender and its number fit, its knowledge is the table of some operations, and it has fewer
-- records of each kind than 64 bits count, as any memory does
pub record IsPacket (p : Packet) : Type 0 where
  pub sender : IsTrue (is_coordinator p.sender)
  pub number : p.number < 2 ^ 64
  pub value : CanBe p.value
  pub jobs : length p.value.jobs < 2 ^ 64
  pub tasks : length p.value.tasks < 2 ^ 64
  pub machines : length p.value.machines < 2 ^ 64
  pub entries : length (flat_of p.value.proposals) < 2 ^ 64

-- the spec prefers no machine
abbrev pub PrefersNone : Option SpecReg → Type 0
PrefersNone None = Unit {0}
PrefersNone (Some s) = s.prefer ≡ []

-- the version has a place for all that the packet tells
abbrev pub CanSpell : Version → Packet → Type 0
CanSpell Fdg1 p = AllByRecursion (λ e. PrefersNone e.1.0) p.value.tasks
CanSpell Fdg2 p = Unit {0}

-- the bytes are the packet's spelling in one of the versions
abbrev pub Spells : List ℕ → Packet → Type 0
Spells bytes p = (v : Version) × CanSpell v p × (bytes ≡ spelling_in v p)

-- the bytes are a packet's spelling in one of the versions
abbrev pub IsSpelling : List ℕ → Type 0
IsSpelling bytes = (p : Packet) × IsPacket p × Spells bytes p
