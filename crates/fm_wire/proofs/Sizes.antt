-- The bytes of packets and records are counted: each field has as many as its width.
use Rattle.std.proofs.Common.{◌≡◌, ℕ, ◌+◌, ◌*◌, ◌≤◌, ◌<◌, true, List, [], ◌∷◌, ◌++◌, Some, None, length, refl, ap, ◌∙◌, arith}
use Rattle.std.specs.List.{flat_map, sum_by, AllByRecursion}
use Rattle.std.specs.Ordering.{nat_cmp}
use Rattle.std.specs.declared.cmp.Ordering.TheVariants.{Less}
use Rattle.std.proofs.lemmas.Bool.Decides.{nat_tests}
use Rattle.fm_lattice.specs.Maps.{IsBelow, IsRising, AreValues}
use Rattle.fm_records.specs.OpsOfTable.{job_ops, task_ops, machine_ops, entry_ops}
use Rattle.fm_records.specs.Ranges.{in_range, all_in_range, CanBe}
use Rattle.fm_records.proofs.RangeLaws.{both_pass}
use Rattle.std.specs.Int.{w32, w64}
use Rattle.std.proofs.lemmas.List.{length-append, length-map}
use Rattle.std.proofs.lemmas.List.Concat.{length-flat_map, flat_map-cons}
use Rattle.std.proofs.lemmas.List.Sums.{sum_by-cons}
use Rattle.fm_records.specs.declared.records.JobReg.{JobReg}
use Rattle.fm_records.specs.declared.records.SpecReg.{SpecReg}
use Rattle.fm_records.specs.declared.records.MachineReg.{MachineReg}
use Rattle.fm_records.specs.declared.records.Report.{Report}
use Rattle.fm_records.specs.declared.records.Spot.{Spot}
use Rattle.fm_records.specs.Table.{Table, TaskValue, MachineValue}
use Rattle.fm_wire.specs.declared.version.Version.TheVariants.{Fdg2}
use Rattle.fm_wire.specs.Formats.{bytes_of, ◌⨾◌}
use Rattle.fm_wire.specs.Grammar.{id, attempt, coordinator_field, price_field, job, preferences, spec, optional_spec, task, state, report, parts, machine, spot, flat_at, flat_of, header, jobs, task_list, machines, entry_list, body, word_of, version_word, packet, packet_size}
use Rattle.fm_wire.specs.inner.RecordSizes.{task_size, machine_size}
use Rattle.fm_wire.proofs.Grouped.{full_rise}
use Rattle.fm_wire.proofs.InRange.{HasEntry, spots_in}

-- what is the same for all
alike : {X : Type 0} (f : X → ℕ) (size : ℕ) → ((x : X) → f x ≡ size) → (xs : List X) → sum_by f xs ≡ size * length xs
alike f size same [] = omega arith
alike f size same (x ∷ xs) = sum_by-cons f x xs ∙ omega (arith, same x, alike f size same xs)

-- ---- records

entry_size : (e : ℕ × ℕ) → length (id.spell e.0 ++ price_field.spell e.1) ≡ 20
unfolding bytes_of
entry_size e = refl

preferring : (es : List (ℕ × ℕ)) → length ((preferences Fdg2).spell es) ≡ 1 + 20 * length es
unfolding preferences bytes_of
preferring es =
    let sum = length-flat_map (λ e. id.spell e.0 ++ price_field.spell e.1) es ∙ alike (λ e. length (id.spell e.0 ++ price_field.spell e.1)) 20 entry_size es in
    omega (arith, sum)

pub without_spec : 1 ≡ length ((optional_spec Fdg2).spell None)
unfolding optional_spec bytes_of
without_spec = refl

pub with_spec : (s : SpecReg) → 32 + 20 * length s.prefer ≡ length ((optional_spec Fdg2).spell (Some s))
unfolding optional_spec spec bytes_of
with_spec s = omega (arith, preferring s.prefer)

pub of_task : (t : ℕ) (v : TaskValue) → 21 + length ((optional_spec Fdg2).spell v.0) ≡ task_size (t, v)
unfolding task bytes_of
of_task t v = omega arith

pub of_machine : (m : ℕ) (v : MachineValue) → 24 + length (parts.spell v.1) ≡ machine_size (m, v)
unfolding machine bytes_of
of_machine m v = omega arith

pub without_parts : 1 ≡ length (parts.spell (None, None))
unfolding parts bytes_of
without_parts = refl

pub with_state : (s : MachineReg) → 19 ≡ length (parts.spell (Some s, None))
unfolding parts state bytes_of
with_state s = refl

pub with_report : (r : Report) → 13 ≡ length (parts.spell (None, Some r))
unfolding parts report bytes_of
with_report r = refl

pub with_both : (s : MachineReg) (r : Report) → 31 ≡ length (parts.spell (Some s, Some r))
unfolding parts state report bytes_of
with_both s r = refl

-- ---- lists of records

abbrev job_bytes : ℕ × JobReg → List ℕ
job_bytes e = id.spell e.0 ++ job.spell e.1

job_size : (e : ℕ × JobReg) → length (job_bytes e) ≡ 34
unfolding job bytes_of
job_size e = refl

abbrev entry_bytes : ((ℕ × ℕ) × ℕ) × Spot → List ℕ
entry_bytes e = ((id ⨾ attempt) ⨾ coordinator_field).spell e.0 ++ spot.spell e.1

proposal_size : (e : ((ℕ × ℕ) × ℕ) × Spot) → length (entry_bytes e) ≡ 45
unfolding spot bytes_of
proposal_size e = refl

-- proposals in one list are as many as those of all attempts
all_proposals : (ps : List ((ℕ × ℕ) × List (ℕ × Spot))) → length (flat_of ps) ≡ sum_by (λ e. length e.1) ps
all_proposals [] = refl
all_proposals (p ∷ ps) =
    let entry : ℕ × Spot → ((ℕ × ℕ) × ℕ) × Spot = λ c. ((p.0, c.0), c.1) in
    ap length (flat_map-cons (λ e. flat_at e.0 e.1) p ps) ∙ length-append (flat_at p.0 p.1) (flat_of ps)
    ∙ omega (arith, length-map p.1 entry, all_proposals ps, sum_by-cons (λ (e : (ℕ × ℕ) × List (ℕ × Spot)). length e.1) p ps)

listed_size : {X : Type 0} (f : X → List ℕ) (xs : List X) → length (bytes_of w64 (length xs) ++ flat_map f xs) ≡ 8 + sum_by (λ x. length (f x)) xs
unfolding bytes_of
listed_size f xs = omega (arith, length-flat_map f xs)

jobs_size : (es : List (ℕ × JobReg)) → length (jobs.spell es) ≡ 8 + 34 * length es
jobs_size es = listed_size job_bytes es ∙ ap (λ n. 8 + n) (alike (λ e. length (job_bytes e)) 34 job_size es)

entries_size : (es : List (((ℕ × ℕ) × ℕ) × Spot)) → length (entry_list.spell es) ≡ 8 + 45 * length es
entries_size es = listed_size entry_bytes es ∙ ap (λ n. 8 + n) (alike (λ e. length (entry_bytes e)) 45 proposal_size es)

heads : (sender number : ℕ) → length (bytes_of w32 (word_of Fdg2) ++ header.spell (sender, number)) ≡ 13
unfolding header bytes_of
heads sender number = refl

pub size_is : (sender number : ℕ) (k : Table) → 45 + 34 * length k.jobs + sum_by task_size k.tasks + sum_by machine_size k.machines + 45 * sum_by (λ e. length e.1) k.proposals
    ≡ packet_size (record { sender = sender; number = number; value = k })
unfolding packet version_word body
size_is sender number k =
    let h = header.spell (sender, number) in
    let w = bytes_of w32 (word_of Fdg2) in
    let j = jobs.spell k.jobs in
    let t = (task_list Fdg2).spell k.tasks in
    let m = machines.spell k.machines in
    let e = entry_list.spell (flat_of k.proposals) in
    omega (
      arith,
      length-append w (h ++ (j ++ (t ++ (m ++ e)))),
      length-append h (j ++ (t ++ (m ++ e))),
      length-append j (t ++ (m ++ e)),
      length-append t (m ++ e),
      length-append m e,
      length-append w h,
      heads sender number,
      jobs_size k.jobs,
      listed_size (λ x. id.spell x.0 ++ (task Fdg2).spell x.1) k.tasks,
      listed_size (λ x. id.spell x.0 ++ machine.spell x.1) k.machines,
      entries_size (flat_of k.proposals),
      all_proposals k.proposals,
    )

-- ---- there are 64 coordinators, so an attempt has few proposals

abbrev Spots : Type 0
Spots = List (ℕ × Spot)

abbrev Groups : Type 0
Groups = List ((ℕ × ℕ) × Spots)

-- the first key, if there is one, is at least this
abbrev IsFrom : ℕ → Spots → Type 0
IsFrom low [] = Unit {0}
IsFrom low (s ∷ spots) = low ≤ s.0

abbrev AreNumbers : Spots → Type 0
AreNumbers spots = AllByRecursion (λ (s : ℕ × Spot). s.0 ≤ 64) spots

less_said : (a b : ℕ) → nat_cmp a b ≡ Less → a < b
less_said a b e = grind (arith, nat_tests, e)

from_zero : (spots : Spots) → IsFrom 0 spots
from_zero [] = tt
from_zero (s ∷ spots) = omega arith

from_next : (low : ℕ) (spots : Spots) → IsBelow nat_cmp low spots → IsFrom (low + 1) spots
from_next low [] h = tt
from_next low (s ∷ spots) h = omega (arith, less_said low s.0 h.0)

few_spots : (low : ℕ) (spots : Spots) → IsRising nat_cmp spots → IsFrom low spots → AreNumbers spots → low ≤ 65 → length spots + low ≤ 65
few_spots low [] rising from numbers h = omega (arith, h)
few_spots low (s ∷ spots) rising from numbers h =
    omega (arith, from, few_spots (s.0 + 1) spots rising.1 (from_next s.0 spots rising.0) numbers.1 (omega (arith, numbers.0)))

are_numbers : (at : ℕ × ℕ) (spots : Spots) → AllByRecursion HasEntry (flat_at at spots) → AreNumbers spots
are_numbers at [] h = tt
are_numbers at (s ∷ spots) h = (h.0.0.1.1, are_numbers at spots h.1)

few_at : (groups : Groups) → AreValues (λ spots. IsRising nat_cmp spots) groups → all_in_range (flat_map entry_ops groups) ≡ true → sum_by (λ e. length e.1) groups ≤ 65 * length groups
few_at [] v h = omega arith
few_at (g ∷ groups) v h =
    let t = both_pass in_range (entry_ops g) (flat_map entry_ops groups) h in
    let here = few_spots 0 g.1 v.0 (from_zero g.1) (are_numbers g.0 g.1 (spots_in g.0 g.1 t.0)) (omega arith) in
    omega (arith, sum_by-cons (λ (e : (ℕ × ℕ) × Spots). length e.1) g groups, here, few_at groups v.1 t.1)

pub few_proposals : (k : Table) → CanBe k → sum_by (λ e. length e.1) k.proposals ≤ 65 * length k.proposals
few_proposals k is =
    let others = flat_map job_ops k.jobs ++ flat_map task_ops k.tasks ++ flat_map machine_ops k.machines in
    let last = both_pass in_range others (flat_map entry_ops k.proposals) is.in_range in
    few_at k.proposals (full_rise k.proposals is.table.proposals.values) last.1
