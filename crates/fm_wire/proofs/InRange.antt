-- The values that formats have are those of the operations in range.
use Rattle.std.proofs.Common.{◌≡◌, ℕ, ◌-◌, ◌^◌, ◌<◌, ◌≤◌, Bool, true, false, cond, List, [], ◌∷◌, ◌++◌, Option, Some, None, refl, ap, ◌∙◌, arith}
use Rattle.std.specs.Prelude.{nat_lt, nat_le, ◌&&◌, is_none, flat_map}
use Rattle.std.specs.List.{AllByRecursion}
use Rattle.std.proofs.lemmas.Bool.{ltb-true, lt-ltb, leb-true, le-leb}
use Rattle.fm_lattice.specs.Joins.{Any}
use Rattle.fm_lattice.specs.Maps.{AreValues}
use Rattle.fm_records.specs.declared.ops.Phase.{Phase}
use Rattle.fm_records.specs.declared.ops.Phase.TheVariants.{Pending, Running, Done}
use Rattle.fm_records.specs.declared.ops.Field.{Field}
use Rattle.fm_records.specs.declared.ops.Op.{Op}
use Rattle.fm_records.specs.declared.records.JobReg.{JobReg}
use Rattle.fm_records.specs.declared.records.SpecReg.{SpecReg}
use Rattle.fm_records.specs.declared.records.Progress.{Progress}
use Rattle.fm_records.specs.declared.records.MachineReg.{MachineReg}
use Rattle.fm_records.specs.declared.records.Report.{Report}
use Rattle.fm_records.specs.declared.records.Spot.{Spot}
use Rattle.fm_records.specs.Ops.{op_fault}
use Rattle.fm_records.specs.Table.{TaskValue, MachineValue}
use Rattle.fm_records.specs.OpsOfTable.{job_op, spec_op, progress_op, machine_op, report_op, propose_op, task_ops, machine_ops, entry_ops, has_part}
use Rattle.fm_records.specs.Ranges.{is_id, is_count, is_attempt, fits_row, fields_fit, in_range, all_in_range}
use Rattle.fm_records.proofs.LookupLaws.{both_true}
use Rattle.fm_records.proofs.RangeLaws.{all_pass, both_pass}
use Rattle.fm_wire.specs.Formats.{◌⨾◌, part}
use Rattle.fm_delta.specs.declared.packet.Packet.{Packet}
use Rattle.fm_wire.specs.declared.version.Version.{Version}
use Rattle.fm_wire.specs.declared.version.Version.TheVariants.{Fdg1, Fdg2}
use Rattle.fm_wire.specs.Grammar.{id, count, attempt, coordinator_field, flag, phase, job, spec, optional_spec, task, state, report, parts, machine, spot, flat_at, flat_of, CanSpell}
use Rattle.fm_wire.proofs.Preferring.{HasPlace, prefer_in, fits_out, preference_out, place_out}

-- ---- tests of fields

both : (a b : Bool) → a ≡ true → b ≡ true → a && b ≡ true
both a b p q = λ i. p i && q i

below : (n limit : ℕ) → nat_lt n limit ≡ true → (0 ≤ n) × (n ≤ limit - 1)
below n limit h = let lt = ltb-true n limit h in (omega arith, omega arith)

is_below : (n limit : ℕ) → 0 < limit → n ≤ limit - 1 → nat_lt n limit ≡ true
is_below n limit pos h = lt-ltb n limit (omega arith)

within : (n least greatest : ℕ) → nat_le least n && nat_le n greatest ≡ true → (least ≤ n) × (n ≤ greatest)
within n least greatest h = let t = both_true (nat_le least n) (nat_le n greatest) h in (leb-true least n t.0, leb-true n greatest t.1)

is_within : (n least greatest : ℕ) → (least ≤ n) × (n ≤ greatest) → nat_le least n && nat_le n greatest ≡ true
is_within n least greatest h = both (nat_le least n) (nat_le n greatest) (le-leb least n h.0) (le-leb n greatest h.1)

up_to : (n greatest : ℕ) → nat_le n greatest ≡ true → (0 ≤ n) × (n ≤ greatest)
up_to n greatest h = let le = leb-true n greatest h in (omega arith, omega arith)

flag_has : (b : Bool) → flag.has b
flag_has true = (omega arith, omega arith)
flag_has false = (omega arith, omega arith)

phase_has : (p : Phase) → phase.has p
phase_has Pending = (omega arith, omega arith)
phase_has Running = (omega arith, omega arith)
phase_has Done = (omega arith, omega arith)

-- a field in range, and those after it
none_then : (b : Bool) (x : Option Field) (f : Field) → is_none (cond b x (Some f)) ≡ true → (b ≡ true) × (is_none x ≡ true)
none_then true x f h = (refl, h)
none_then false x f h = absurd cc

none_back : (b : Bool) (x : Option Field) (f : Field) → b ≡ true → is_none x ≡ true → is_none (cond b x (Some f)) ≡ true
none_back b x f p q = ap (λ c. is_none (cond c x (Some f))) p ∙ q

-- ---- records

pub job_in : (j : ℕ) (r : JobReg) → in_range (job_op j r) ≡ true → id.has j × job.has r
unfolding job
job_in j r h =
    let whole = both_true (fields_fit (job_op j r)) (is_none (op_fault (job_op j r))) h in
    let ids = both_true (is_id j) (is_count r.version) whole.0 in
    let a = none_then _ _ _ whole.1 in
    let b = none_then _ _ _ a.1 in
    let c = none_then _ _ _ b.1 in
    (below j (2 ^ 128) ids.0, (below r.version (2 ^ 64) ids.1, (within r.writer 1 64 a.0, (flag_has r.withdrawn, (up_to r.wait 1000000000 b.0, up_to r.preempt 1000000000 c.0)))))

pub job_out : (j : ℕ) (r : JobReg) → id.has j × job.has r → in_range (job_op j r) ≡ true
unfolding job
job_out j r h =
    both (fields_fit (job_op j r)) (is_none (op_fault (job_op j r)))
    (both (is_id j) (is_count r.version) (is_below j (2 ^ 128) (omega arith) h.0.1) (is_below r.version (2 ^ 64) (omega arith) h.1.0.1))
    (none_back _ _ _ (is_within r.writer 1 64 h.1.1.0) (none_back _ _ _ (le-leb r.wait 1000000000 h.1.1.1.1.0.1) (none_back _ _ _ (le-leb r.preempt 1000000000 h.1.1.1.1.1.1) refl)))

spec_in : (v : Version) (t : ℕ) (r : SpecReg) → HasPlace v (Some r) → in_range (spec_op t r) ≡ true → (spec v).has r
unfolding spec
spec_in v t r place h =
    let whole = both_true (fields_fit (spec_op t r)) (is_none (op_fault (spec_op t r))) h in
    let row = both_true (is_id t && is_count r.version && is_id r.job) (fits_row r.prefer) whole.0 in
    let ids = both_true (is_id t && is_count r.version) (is_id r.job) row.0 in
    let first = both_true (is_id t) (is_count r.version) ids.0 in
    let a = none_then _ _ _ whole.1 in
    let b = none_then _ _ _ a.1 in
    let c = none_then _ _ _ b.1 in
    (below r.version (2 ^ 64) first.1, (within r.writer 1 64 a.0, (flag_has r.withdrawn, (below r.job (2 ^ 128) ids.1, (up_to r.request 1000000 b.0, prefer_in v r place row.1 c.0)))))

spec_out : (v : Version) (t : ℕ) (r : SpecReg) → id.has t → (spec v).has r → in_range (spec_op t r) ≡ true
unfolding spec
spec_out v t r g h =
    both (fields_fit (spec_op t r)) (is_none (op_fault (spec_op t r)))
    (both (is_id t && is_count r.version && is_id r.job) (fits_row r.prefer)
    (both (is_id t && is_count r.version) (is_id r.job) (both (is_id t) (is_count r.version) (is_below t (2 ^ 128) (omega arith) g.1) (is_below r.version (2 ^ 64) (omega arith) h.0.1)) (is_below r.job (2 ^ 128) (omega arith) h.1.1.1.0.1))
    (fits_out v r.prefer h.1.1.1.1.1))
    (none_back _ _ _ (is_within r.writer 1 64 h.1.0) (none_back _ _ _ (le-leb r.request 1000000 h.1.1.1.1.0.1) (none_back _ _ _ (preference_out v r.prefer h.1.1.1.1.1) refl)))

spec_place : (v : Version) (r : SpecReg) → (spec v).has r → HasPlace v (Some r)
unfolding spec
spec_place v r h = place_out v r h.1.1.1.1.1

no_place : (v : Version) → HasPlace v None
no_place Fdg1 = tt
no_place Fdg2 = tt

progress_in : (t : ℕ) (p : Progress) → in_range (progress_op t p) ≡ true → id.has t × attempt.has p.attempt
progress_in t p h =
    let whole = both_true (fields_fit (progress_op t p)) true h in
    let ids = both_true (is_id t) (is_attempt p.attempt) whole.0 in
    (below t (2 ^ 128) ids.0, below p.attempt (2 ^ 32) ids.1)

progress_out : (t : ℕ) (p : Progress) → id.has t → attempt.has p.attempt → in_range (progress_op t p) ≡ true
progress_out t p g h =
    both (fields_fit (progress_op t p)) true (both (is_id t) (is_attempt p.attempt) (is_below t (2 ^ 128) (omega arith) g.1) (is_below p.attempt (2 ^ 32) (omega arith) h.1)) refl

none_has : (v : Version) → (optional_spec v).has None
unfolding optional_spec
none_has v = ((omega arith, omega arith), refl)

some_has : (v : Version) (s : SpecReg) → (spec v).has s → (optional_spec v).has (Some s)
unfolding optional_spec
some_has v s h = ((omega arith, omega arith), h)

has_some : (v : Version) (s : SpecReg) → (optional_spec v).has (Some s) → (spec v).has s
unfolding optional_spec
has_some v s h = h.1

first_passes : (o : Op) (os : List Op) → all_in_range (o ∷ os) ≡ true → (in_range o ≡ true) × (all_in_range os ≡ true)
first_passes o os h = both_true (in_range o) (all_in_range os) h

passes_first : (o : Op) (os : List Op) → in_range o ≡ true → all_in_range os ≡ true → all_in_range (o ∷ os) ≡ true
passes_first o os p q = both (in_range o) (all_in_range os) p q

task_in : (w : Version) (t : ℕ) (v : TaskValue) → HasPlace w v.0 → all_in_range (task_ops (t, v)) ≡ true → id.has t × (task w).has v
unfolding task
task_in w t (None, p) place h =
    let one = progress_in t p (first_passes (progress_op t p) [] h).0 in
    (one.0, (one.1, (phase_has p.phase, none_has w)))
task_in w t (Some s, p) place h =
    let two = first_passes (spec_op t s) (progress_op t p ∷ []) h in
    let one = progress_in t p (first_passes (progress_op t p) [] two.1).0 in
    (one.0, (one.1, (phase_has p.phase, some_has w s (spec_in w t s place two.0))))

pub task_out : (w : Version) (t : ℕ) (v : TaskValue) → id.has t × (task w).has v → all_in_range (task_ops (t, v)) ≡ true
unfolding task
task_out w t (None, p) h = passes_first (progress_op t p) [] (progress_out t p h.0 h.1.0) refl
task_out w t (Some s, p) h = passes_first (spec_op t s) (progress_op t p ∷ []) (spec_out w t s h.0 (has_some w s h.1.1.1)) (passes_first (progress_op t p) [] (progress_out t p h.0 h.1.0) refl)

task_place : (w : Version) (v : TaskValue) → (task w).has v → HasPlace w v.0
unfolding task
task_place w (None, p) h = no_place w
task_place w (Some s, p) h = spec_place w s (has_some w s h.1.1)

state_in : (m i : ℕ) (r : MachineReg) → in_range (machine_op m i r) ≡ true → id.has m × count.has i × state.has r
unfolding state
state_in m i r h =
    let whole = both_true (fields_fit (machine_op m i r)) (is_none (op_fault (machine_op m i r))) h in
    let ids = both_true (is_id m && is_count i) (is_count r.version) whole.0 in
    let first = both_true (is_id m) (is_count i) ids.0 in
    let a = none_then _ _ _ whole.1 in
    let b = none_then _ _ _ a.1 in
    let c = none_then _ _ _ b.1 in
    (below m (2 ^ 128) first.0, below i (2 ^ 64) first.1, (below r.version (2 ^ 64) ids.1, (within r.writer 1 64 a.0, (flag_has r.up, (within r.slots 1 1000 b.0, up_to r.nic 1000000 c.0)))))

state_out : (m i : ℕ) (r : MachineReg) → id.has m → count.has i → state.has r → in_range (machine_op m i r) ≡ true
unfolding state
state_out m i r g k h =
    both (fields_fit (machine_op m i r)) (is_none (op_fault (machine_op m i r)))
    (both (is_id m && is_count i) (is_count r.version) (both (is_id m) (is_count i) (is_below m (2 ^ 128) (omega arith) g.1) (is_below i (2 ^ 64) (omega arith) k.1)) (is_below r.version (2 ^ 64) (omega arith) h.0.1))
    (none_back _ _ _ (is_within r.writer 1 64 h.1.0) (none_back _ _ _ (is_within r.slots 1 1000 h.1.1.1.0) (none_back _ _ _ (le-leb r.nic 1000000 h.1.1.1.1.1) refl)))

report_in : (m i : ℕ) (r : Report) → in_range (report_op m i r) ≡ true → id.has m × count.has i × report.has r
unfolding report
report_in m i r h =
    let whole = both_true (fields_fit (report_op m i r)) (is_none (op_fault (report_op m i r))) h in
    let ids = both_true (is_id m && is_count i) (is_count r.number) whole.0 in
    let first = both_true (is_id m) (is_count i) ids.0 in
    let a = none_then _ _ _ whole.1 in
    (below m (2 ^ 128) first.0, below i (2 ^ 64) first.1, (below r.number (2 ^ 64) ids.1, up_to r.used 1000000000 a.0))

report_out : (m i : ℕ) (r : Report) → id.has m → count.has i → report.has r → in_range (report_op m i r) ≡ true
unfolding report
report_out m i r g k h =
    both (fields_fit (report_op m i r)) (is_none (op_fault (report_op m i r)))
    (both (is_id m && is_count i) (is_count r.number) (both (is_id m) (is_count i) (is_below m (2 ^ 128) (omega arith) g.1) (is_below i (2 ^ 64) (omega arith) k.1)) (is_below r.number (2 ^ 64) (omega arith) h.0.1))
    (none_back _ _ _ (le-leb r.used 1000000000 h.1.1) refl)

pub machine_in : (m : ℕ) (v : MachineValue) → has_part v → all_in_range (machine_ops (m, v)) ≡ true → id.has m × machine.has v
unfolding machine parts
machine_in m (i, (None, None)) part h = absurd part
machine_in m (i, (None, Some r)) part h =
    let one = report_in m i r (first_passes (report_op m i r) [] h).0 in
    (one.0, (one.1, ((omega arith, omega arith), (refl, one.2))))
machine_in m (i, (Some s, None)) part h =
    let one = state_in m i s (first_passes (machine_op m i s) [] h).0 in
    (one.0, (one.1, ((omega arith, omega arith), (one.2, refl))))
machine_in m (i, (Some s, Some r)) part h =
    let two = first_passes (machine_op m i s) (report_op m i r ∷ []) h in
    let one = state_in m i s two.0 in
    let last = report_in m i r (first_passes (report_op m i r) [] two.1).0 in
    (one.0, (one.1, ((omega arith, omega arith), (one.2, last.2))))

pub machine_out : (m : ℕ) (v : MachineValue) → id.has m × machine.has v → has_part v × (all_in_range (machine_ops (m, v)) ≡ true)
unfolding machine parts
machine_out m (i, (None, None)) h = absurd (omega (arith, h.1.1.0.0))
machine_out m (i, (None, Some r)) h = (tt, passes_first (report_op m i r) [] (report_out m i r h.0 h.1.0 h.1.1.1.1) refl)
machine_out m (i, (Some s, None)) h = (tt, passes_first (machine_op m i s) [] (state_out m i s h.0 h.1.0 h.1.1.1.0) refl)
machine_out m (i, (Some s, Some r)) h =
    (tt, passes_first (machine_op m i s) (report_op m i r ∷ []) (state_out m i s h.0 h.1.0 h.1.1.1.0) (passes_first (report_op m i r) [] (report_out m i r h.0 h.1.0 h.1.1.1.1) refl))

-- an entry of the one list
abbrev Entry : Type 0
Entry = ((ℕ × ℕ) × ℕ) × Spot

abbrev pub HasEntry : Entry → Type 0
HasEntry e = ((id ⨾ attempt) ⨾ coordinator_field).has e.0 × spot.has e.1

entry_in : (at : ℕ × ℕ) (c : ℕ) (s : Spot) → in_range (propose_op at c s) ≡ true → HasEntry ((at, c), s)
unfolding spot
entry_in at c s h =
    let whole = both_true (fields_fit (propose_op at c s)) (is_none (op_fault (propose_op at c s))) h in
    let last = both_true (is_id at.0 && is_attempt at.1 && is_id s.machine) (is_count s.incarnation) whole.0 in
    let middle = both_true (is_id at.0 && is_attempt at.1) (is_id s.machine) last.0 in
    let first = both_true (is_id at.0) (is_attempt at.1) middle.0 in
    let a = none_then _ _ _ whole.1 in
    (((below at.0 (2 ^ 128) first.0, below at.1 (2 ^ 32) first.1), within c 1 64 a.0), (below s.machine (2 ^ 128) middle.1, below s.incarnation (2 ^ 64) last.1))

entry_out : (at : ℕ × ℕ) (c : ℕ) (s : Spot) → HasEntry ((at, c), s) → in_range (propose_op at c s) ≡ true
unfolding spot
entry_out at c s h =
    both (fields_fit (propose_op at c s)) (is_none (op_fault (propose_op at c s)))
    (both (is_id at.0 && is_attempt at.1 && is_id s.machine) (is_count s.incarnation)
    (both (is_id at.0 && is_attempt at.1) (is_id s.machine) (both (is_id at.0) (is_attempt at.1) (is_below at.0 (2 ^ 128) (omega arith) h.0.0.0.1) (is_below at.1 (2 ^ 32) (omega arith) h.0.0.1.1)) (is_below s.machine (2 ^ 128) (omega arith) h.1.0.1))
    (is_below s.incarnation (2 ^ 64) (omega arith) h.1.1.1))
    (none_back _ _ _ (is_within c 1 64 h.0.1) refl)

-- ---- lists of records

module _ {E : Type 0} (g : E → List Op) (P : E → Type 0) where
  pub list_in : (es : List E) → ((e : E) → all_in_range (g e) ≡ true → P e) → all_in_range (flat_map g es) ≡ true → AllByRecursion P es
  list_in [] one h = tt
  list_in (e ∷ es) one h = let t = both_pass in_range (g e) (flat_map g es) h in (one e t.0, list_in es one t.1)

  pub list_out : (es : List E) → ((e : E) → P e → all_in_range (g e) ≡ true) → AllByRecursion P es → all_in_range (flat_map g es) ≡ true
  list_out [] one h = refl
  list_out (e ∷ es) one h = all_pass in_range (g e) (flat_map g es) (one e h.0) (list_out es one h.1)

abbrev HasTask : Version → ℕ × TaskValue → Type 0
HasTask w e = id.has e.0 × (task w).has e.1

-- the version has a place for what each task prefers
abbrev HasPlaces : Version → List (ℕ × TaskValue) → Type 0
HasPlaces w es = AllByRecursion (λ (e : ℕ × TaskValue). HasPlace w e.1.0) es

each_task_in : (w : Version) (es : List (ℕ × TaskValue)) → HasPlaces w es → all_in_range (flat_map task_ops es) ≡ true → AllByRecursion (HasTask w) es
each_task_in w [] places h = tt
each_task_in w (e ∷ es) places h = let t = both_pass in_range (task_ops e) (flat_map task_ops es) h in (task_in w e.0 e.1 places.0 t.0, each_task_in w es places.1 t.1)

each_place : (w : Version) (es : List (ℕ × TaskValue)) → AllByRecursion (HasTask w) es → HasPlaces w es
each_place w [] h = tt
each_place w (e ∷ es) h = (task_place w e.1 h.0.1, each_place w es h.1)

any_places : (es : List (ℕ × TaskValue)) → HasPlaces Fdg2 es
any_places [] = tt
any_places (e ∷ es) = (tt, any_places es)

pub tasks_in : (w : Version) (p : Packet) → CanSpell w p → all_in_range (flat_map task_ops p.value.tasks) ≡ true → AllByRecursion (HasTask w) p.value.tasks
tasks_in Fdg1 p can h = each_task_in Fdg1 p.value.tasks can h
tasks_in Fdg2 p can h = each_task_in Fdg2 p.value.tasks (any_places p.value.tasks) h

pub tasks_can : (w : Version) (p : Packet) → AllByRecursion (HasTask w) p.value.tasks → CanSpell w p
tasks_can Fdg1 p h = each_place Fdg1 p.value.tasks h
tasks_can Fdg2 p h = tt

abbrev HasMachine : ℕ × MachineValue → Type 0
HasMachine e = id.has e.0 × machine.has e.1

pub machines_in : (es : List (ℕ × MachineValue)) → AreValues has_part es → all_in_range (flat_map machine_ops es) ≡ true → AllByRecursion HasMachine es
machines_in [] v h = tt
machines_in (e ∷ es) v h = let t = both_pass in_range (machine_ops e) (flat_map machine_ops es) h in (machine_in e.0 e.1 v.0 t.0, machines_in es v.1 t.1)

pub machines_parts : (es : List (ℕ × MachineValue)) → AllByRecursion HasMachine es → AreValues has_part es
machines_parts [] h = tt
machines_parts (e ∷ es) h = ((machine_out e.0 e.1 h.0).0, machines_parts es h.1)

pub any_values : {V : Type 0} (es : List (ℕ × V)) → AreValues Any es
any_values [] = tt
any_values (e ∷ es) = (tt, any_values es)

abbrev Spots : Type 0
Spots = List (ℕ × Spot)

pub spots_in : (at : ℕ × ℕ) (spots : Spots) → all_in_range (entry_ops (at, spots)) ≡ true → AllByRecursion HasEntry (flat_at at spots)
spots_in at [] h = tt
spots_in at (s ∷ spots) h = let t = first_passes (propose_op at s.0 s.1) (entry_ops (at, spots)) h in (entry_in at s.0 s.1 t.0, spots_in at spots t.1)

spots_out : (at : ℕ × ℕ) (spots : Spots) → AllByRecursion HasEntry (flat_at at spots) → all_in_range (entry_ops (at, spots)) ≡ true
spots_out at [] h = refl
spots_out at (s ∷ spots) h = passes_first (propose_op at s.0 s.1) (entry_ops (at, spots)) (entry_out at s.0 s.1 h.0) (spots_out at spots h.1)

module _ {X : Type 0} (P : X → Type 0) where
  all_both : (xs ys : List X) → AllByRecursion P xs → AllByRecursion P ys → AllByRecursion P (xs ++ ys)
  all_both [] ys p q = q
  all_both (x ∷ xs) ys p q = (p.0, all_both xs ys p.1 q)

  all_parts : (xs ys : List X) → AllByRecursion P (xs ++ ys) → AllByRecursion P xs × AllByRecursion P ys
  all_parts [] ys p = (tt, p)
  all_parts (x ∷ xs) ys p = let t = all_parts xs ys p.1 in ((p.0, t.0), t.1)

pub entries_in : (groups : List ((ℕ × ℕ) × Spots)) → all_in_range (flat_map entry_ops groups) ≡ true → AllByRecursion HasEntry (flat_of groups)
entries_in [] h = tt
entries_in (g ∷ groups) h =
    let t = both_pass in_range (entry_ops g) (flat_map entry_ops groups) h in
    all_both HasEntry (flat_at g.0 g.1) (flat_of groups) (spots_in g.0 g.1 t.0) (entries_in groups t.1)

pub entries_out : (groups : List ((ℕ × ℕ) × Spots)) → AllByRecursion HasEntry (flat_of groups) → all_in_range (flat_map entry_ops groups) ≡ true
entries_out [] h = refl
entries_out (g ∷ groups) h =
    let t = all_parts HasEntry (flat_at g.0 g.1) (flat_of groups) h in
    all_pass in_range (entry_ops g) (flat_map entry_ops groups) (spots_out g.0 g.1 t.0) (entries_out groups t.1)
