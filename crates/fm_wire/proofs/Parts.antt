-- A packet is its version's word, its header and its lists, one after the other.
use Rattle.std.proofs.Common.{◌≡◌, ℕ, List, [], ◌++◌, Result, Ok, Err, refl, ap, ◌∙◌, append_assoc}
use Rattle.fm_records.specs.declared.records.JobReg.{JobReg}
use Rattle.fm_records.specs.declared.records.Spot.{Spot}
use Rattle.fm_records.specs.Table.{TaskValue, MachineValue}
use Rattle.fm_wire.specs.declared.decode_error.DecodeError.{DecodeError}
use Rattle.fm_wire.specs.declared.decode_error.DecodeError.TheVariants as errors
use Rattle.std.specs.Int.{w32}
use Rattle.fm_delta.specs.declared.packet.Packet.{Packet}
use Rattle.fm_wire.specs.declared.version.Version.{Version}
use Rattle.fm_wire.specs.declared.version.Version.TheVariants.{Fdg2}
use Rattle.fm_wire.specs.Formats.{Reading, ◌>>=◌, Format, bytes_of, ◌⨾◌}
use Rattle.fm_wire.specs.Grammar.{Listed, header, jobs, task_list, machines, entry_list, body, word_of, version_word, packet}
use Rattle.fm_wire.specs.inner.Decoding.{rest_of, DecodeFails, FindsListed, Finds}

-- ---- spelling

pub spelled_parts : (p : Listed) (z a b c d e f : List ℕ) → z ≡ [] → a ≡ z ++ bytes_of w32 (word_of Fdg2) → b ≡ a ++ header.spell (p.sender, p.number) → c ≡ b ++ jobs.spell p.jobs → d ≡ c ++ (task_list Fdg2).spell p.tasks → e ≡ d ++ machines.spell p.machines → f ≡ e ++ entry_list.spell p.entries
    → f ≡ packet.spell (Fdg2, p)
unfolding packet version_word body
spelled_parts p z a b c d e f hz ha hb hc hd he hf =
    let w = bytes_of w32 (word_of Fdg2) in
    let h = header.spell (p.sender, p.number) in
    let j = jobs.spell p.jobs in
    let t = (task_list Fdg2).spell p.tasks in
    let m = machines.spell p.machines in
    let n = entry_list.spell p.entries in
    let a-is : a ≡ w = ha ∙ ap (λ x. x ++ w) hz in
    let b-is : b ≡ w ++ h = hb ∙ ap (λ x. x ++ h) a-is in
    let c-is : c ≡ (w ++ h) ++ j = hc ∙ ap (λ x. x ++ j) b-is in
    let d-is : d ≡ ((w ++ h) ++ j) ++ t = hd ∙ ap (λ x. x ++ t) c-is in
    let e-is : e ≡ (((w ++ h) ++ j) ++ t) ++ m = he ∙ ap (λ x. x ++ m) d-is in
    hf ∙ ap (λ x. x ++ n) e-is ∙ append_assoc (((w ++ h) ++ j) ++ t) m n ∙ append_assoc ((w ++ h) ++ j) t (m ++ n) ∙ append_assoc (w ++ h) j (t ++ (m ++ n)) ∙ append_assoc w h (j ++ (t ++ (m ++ n)))

-- ---- the bytes after a packet

keeps_rest : {A B : Type 0} (f : A → B) (r : Reading A) → rest_of (r >>= λ x. Ok (f x.0, x.1)) ≡ rest_of r
keeps_rest f (Ok x) = refl
keeps_rest f (Err left) = refl

rest_then : {A B : Type 0} (r : Reading A) (G : Format B) → rest_of {A = A × B} (r >>= λ x. G.read x.1 >>= λ y. Ok ((x.0, y.0), y.1)) ≡ (rest_of r >>= λ bytes. rest_of (G.read bytes))
rest_then {A} {B} (Ok x) G = let with_first : B → A × B = λ y. (x.0, y) in keeps_rest with_first (G.read x.1)
rest_then (Err left) G = refl

then_same : {A B : Type 0} (r : Result A ℕ) (f g : A → Result B ℕ) → ((a : A) → f a ≡ g a) → (r >>= f) ≡ (r >>= g)
then_same (Ok x) f g h = h x
then_same (Err left) f g h = refl

abbrev after_machines : List ℕ → Result (List ℕ) ℕ
after_machines d = rest_of (entry_list.read d)

abbrev after_tasks : List ℕ → Result (List ℕ) ℕ
after_tasks c = rest_of (machines.read c) >>= after_machines

abbrev after_jobs : Version → List ℕ → Result (List ℕ) ℕ
after_jobs v b = rest_of ((task_list v).read b) >>= after_tasks

abbrev after_header : Version → List ℕ → Result (List ℕ) ℕ
after_header v a = rest_of (jobs.read a) >>= after_jobs v

pub body_rest : (v : Version) (bytes : List ℕ) → rest_of ((body v).read bytes) ≡ (rest_of (header.read bytes) >>= λ a. rest_of (jobs.read a) >>= λ b. rest_of ((task_list v).read b) >>= λ c. rest_of (machines.read c) >>= λ d. rest_of (entry_list.read d))
unfolding body
body_rest v bytes =
    keeps_rest _ ((header ⨾ jobs ⨾ task_list v ⨾ machines ⨾ entry_list).read bytes)
    ∙ rest_then (header.read bytes) (jobs ⨾ task_list v ⨾ machines ⨾ entry_list)
    ∙ then_same (rest_of (header.read bytes)) _ (after_header v) (λ a.
    rest_then (jobs.read a) (task_list v ⨾ machines ⨾ entry_list)
    ∙ then_same (rest_of (jobs.read a)) _ (after_jobs v) (λ b.
    rest_then ((task_list v).read b) (machines ⨾ entry_list)
    ∙ then_same (rest_of ((task_list v).read b)) _ after_tasks (λ c.
    rest_then (machines.read c) entry_list)))

pub packet_rest : (bytes : List ℕ) → rest_of (packet.read bytes) ≡ (version_word.read bytes >>= λ x. rest_of ((body x.0).read x.1))
unfolding packet
packet_rest bytes = rest_told (version_word.read bytes)
  where
    rest_told : (r : Reading Version) → rest_of {A = Version × Listed} (r >>= λ x. (body x.0).read x.1 >>= λ y. Ok ((x.0, y.0), y.1)) ≡ (r >>= λ x. rest_of ((body x.0).read x.1))
    rest_told (Ok x) = let with_version : Listed → Version × Listed = λ p. (x.0, p) in keeps_rest with_version ((body x.0).read x.1)
    rest_told (Err left) = refl

-- ---- reading

abbrev JobList : Type 0
JobList = List (ℕ × JobReg)

abbrev TaskList : Type 0
TaskList = List (ℕ × TaskValue)

abbrev MachineList : Type 0
MachineList = List (ℕ × MachineValue)

abbrev EntryList : Type 0
EntryList = List (((ℕ × ℕ) × ℕ) × Spot)

-- what was read of a packet at the front, part by part
pub record ReadHeader (bytes : List ℕ) (h : ℕ × ℕ) (a : List ℕ) : Type 0 where
  pub header : header.read bytes ≡ Ok (h, a)

pub record ReadJobs (bytes : List ℕ) (h : ℕ × ℕ) (js : JobList) (b : List ℕ) : Type 0 where
  pub after : List ℕ
  pub before : ReadHeader bytes h after
  pub jobs : jobs.read after ≡ Ok (js, b)

pub record ReadTasks (v : Version) (bytes : List ℕ) (h : ℕ × ℕ) (js : JobList) (ts : TaskList) (c : List ℕ) : Type 0 where
  pub after : List ℕ
  pub before : ReadJobs bytes h js after
  pub tasks : (task_list v).read after ≡ Ok (ts, c)

pub record ReadMachines (v : Version) (bytes : List ℕ) (h : ℕ × ℕ) (js : JobList) (ts : TaskList) (ms : MachineList) (d : List ℕ) : Type 0 where
  pub after : List ℕ
  pub before : ReadTasks v bytes h js ts after
  pub machines : machines.read after ≡ Ok (ms, d)

pub reads_body : (v : Version) (bytes : List ℕ) (h : ℕ × ℕ) (js : JobList) (ts : TaskList) (ms : MachineList) (d : List ℕ) (es : EntryList) (rest : List ℕ) → ReadMachines v bytes h js ts ms d → entry_list.read d ≡ Ok (es, rest)
    → (body v).read bytes ≡ Ok (record { sender = h.0; number = h.1; jobs = js; tasks = ts; machines = ms; entries = es }, rest)
unfolding body
reads_body v bytes h js ts ms d es rest m e =
    let t = m.before in
    let j = t.before in
    rw (j.before.header, j.jobs, t.tasks, m.machines, e) refl

pub header_fails : (v : Version) (bytes : List ℕ) (left : ℕ) → header.read bytes ≡ Err left → (body v).read bytes ≡ Err left
unfolding body
header_fails v bytes left e = rw e refl

pub jobs_fail : (v : Version) (e : DecodeError) (bytes : List ℕ) (h : ℕ × ℕ) (a : List ℕ) → ReadHeader bytes h a → DecodeFails e (jobs.read a) → DecodeFails e ((body v).read bytes)
unfolding body
jobs_fail v errors.Memory bytes h a r f = tt
jobs_fail v (errors.Fault left) bytes h a r f = rw (r.header, f) refl

pub tasks_fail : (v : Version) (e : DecodeError) (bytes : List ℕ) (h : ℕ × ℕ) (js : JobList) (b : List ℕ) → ReadJobs bytes h js b → DecodeFails e ((task_list v).read b) → DecodeFails e ((body v).read bytes)
unfolding body
tasks_fail v errors.Memory bytes h js b r f = tt
tasks_fail v (errors.Fault left) bytes h js b r f = rw (r.before.header, r.jobs, f) refl

pub machines_fail : (v : Version) (e : DecodeError) (bytes : List ℕ) (h : ℕ × ℕ) (js : JobList) (ts : TaskList) (c : List ℕ) → ReadTasks v bytes h js ts c → DecodeFails e (machines.read c) → DecodeFails e ((body v).read bytes)
unfolding body
machines_fail v errors.Memory bytes h js ts c r f = tt
machines_fail v (errors.Fault left) bytes h js ts c r f = rw (r.before.before.header, r.before.jobs, r.tasks, f) refl

pub entries_fail : (v : Version) (e : DecodeError) (bytes : List ℕ) (h : ℕ × ℕ) (js : JobList) (ts : TaskList) (ms : MachineList) (d : List ℕ) → ReadMachines v bytes h js ts ms d → DecodeFails e (entry_list.read d) → DecodeFails e ((body v).read bytes)
unfolding body
entries_fail v errors.Memory bytes h js ts ms d r f = tt
entries_fail v (errors.Fault left) bytes h js ts ms d r f = rw (r.before.before.before.header, r.before.before.jobs, r.before.tasks, r.machines, f) refl

-- ---- the version before it

pub version_fails : (bytes : List ℕ) (left : ℕ) → version_word.read bytes ≡ Err left → packet.read bytes ≡ Err left
unfolding packet
version_fails bytes left e = rw e refl

pub finds_packet : (r : Result Packet DecodeError) (bytes : List ℕ) (v : Version) (rest : List ℕ) → version_word.read bytes ≡ Ok (v, rest) → FindsListed r ((body v).read rest) → Finds r (packet.read bytes)
unfolding packet
finds_packet (Ok p) bytes v rest e f = (v, f.0, rw (e, f.1) refl)
finds_packet (Err errors.Memory) bytes v rest e f = tt
finds_packet (Err (errors.Fault left)) bytes v rest e f = rw (e, f) refl
