-- The format of packets is read as it is spelled.
use Rattle.std.proofs.Common.{◌≡◌, ℕ, zero, suc, ◌-◌, ◌^◌, ◌≤◌, Bool, true, false, cond, [], Option, Some, None, refl, sym, arith, eqb, ◌≢◌}
use Rattle.std.specs.Prelude.{◌||◌}
use Rattle.std.specs.Int.{w8, w32, w64, w128}
use Rattle.std.specs.Ordering.{nat_cmp}
use Rattle.std.specs.Cmp.{nat_cmp_total}
use Rattle.fm_lattice.specs.Chains.{TellsApart}
use Rattle.fm_lattice.specs.laws.ChainLaws.{nat_same, pair_same}
use Rattle.fm_records.specs.declared.ops.Phase.{Phase}
use Rattle.fm_records.specs.declared.ops.Phase.TheVariants.{Pending, Running, Done}
use Rattle.fm_records.specs.declared.records.MachineReg.{MachineReg}
use Rattle.fm_records.specs.declared.records.Report.{Report}
use Rattle.fm_records.specs.declared.records.SpecReg.{SpecReg}
use Rattle.fm_records.specs.Orders.{phase_place, attempt_cmp}
use Rattle.fm_records.specs.laws.OrderLaws.{same_attempt}
use Rattle.std.proofs.lemmas.Bool.{eqb-true, eqb-false}
use Rattle.fm_wire.specs.declared.version.Version.{Version}
use Rattle.fm_wire.specs.declared.version.Version.TheVariants.{Fdg1, Fdg2}
use Rattle.fm_wire.specs.Formats.{Format, number_field, ◌⨾◌, part}
use Rattle.fm_wire.specs.Grammar.{id, count, attempt, coordinator_field, flag, price_field, bandwidth, phase_from, phase, job, preferences, spec, has_of, optional_spec, task, state, report, parts_of, parts, machine, spot, entry_cmp, header, jobs, task_list, machines, entry_list, body, word_of, version_from, version_word, packet}
use Rattle.fm_wire.proofs.Widths.{wide8, wide32, wide64, wide128}
use Rattle.fm_wire.proofs.Lawful.{Lawful, number_lawful, only_lawful, leading_lawful, pair_lawful, seen_lawful, part_lawful, tagged_lawful, counted_lawful, records_lawful}
use Rattle.fm_wire.proofs.Grouped.{entry_total}

id_lawful : Lawful id
id_lawful = number_lawful w128 (2 ^ 128) 0 (2 ^ 128 - 1) wide128 (omega arith)

count_lawful : Lawful count
count_lawful = number_lawful w64 (2 ^ 64) 0 (2 ^ 64 - 1) wide64 (omega arith)

attempt_lawful : Lawful attempt
attempt_lawful = number_lawful w32 (2 ^ 32) 0 (2 ^ 32 - 1) wide32 (omega arith)

coordinator_lawful : Lawful coordinator_field
coordinator_lawful = number_lawful w8 (2 ^ 8) 1 64 wide8 (omega arith)

price_lawful : Lawful price_field
price_lawful = number_lawful w32 (2 ^ 32) 0 1000000000 wide32 (omega arith)

bandwidth_lawful : Lawful bandwidth
bandwidth_lawful = number_lawful w32 (2 ^ 32) 0 1000000 wide32 (omega arith)

slots_lawful : Lawful (number_field w32 1 1000)
slots_lawful = number_lawful w32 (2 ^ 32) 1 1000 wide32 (omega arith)

flag_lawful : Lawful flag
flag_lawful = seen_lawful (number_field w8 0 1) (λ n. eqb n 1) (λ b. cond b 1 0) (number_lawful w8 (2 ^ 8) 0 1 wide8 (omega arith)) back forth
  where
    back : (n : ℕ) → (0 ≤ n) × (n ≤ 1) → cond (eqb n 1) 1 0 ≡ n
    back zero h = refl
    back (suc zero) h = refl
    back (suc (suc n)) h = absurd (omega (arith, h.1))

    forth : (b : Bool) → eqb (cond b 1 0) 1 ≡ b
    forth true = refl
    forth false = refl

phase_lawful : Lawful phase
phase_lawful = seen_lawful (number_field w8 0 2) phase_from phase_place (number_lawful w8 (2 ^ 8) 0 2 wide8 (omega arith)) back forth
  where
    back : (n : ℕ) → (0 ≤ n) × (n ≤ 2) → phase_place (phase_from n) ≡ n
    back zero h = refl
    back (suc zero) h = refl
    back (suc (suc zero)) h = refl
    back (suc (suc (suc n))) h = absurd (omega (arith, h.1))

    forth : (p : Phase) → phase_from (phase_place p) ≡ p
    forth Pending = refl
    forth Running = refl
    forth Done = refl

pub job_lawful : Lawful job
unfolding job
job_lawful = seen_lawful (count ⨾ coordinator_field ⨾ flag ⨾ price_field ⨾ price_field) _ _
    (pair_lawful count _ count_lawful (pair_lawful coordinator_field _ coordinator_lawful (pair_lawful flag _ flag_lawful (pair_lawful price_field price_field price_lawful price_lawful)))) (λ f _. refl) (λ r. refl)

preferences_lawful : (v : Version) → Lawful (preferences v)
unfolding preferences
preferences_lawful Fdg1 = only_lawful []
preferences_lawful Fdg2 = counted_lawful nat_cmp nat_cmp_total nat_same id price_field id_lawful price_lawful w8 (2 ^ 8) 4 wide8 (omega arith)

pub spec_lawful : (v : Version) → Lawful (spec v)
unfolding spec
spec_lawful v = seen_lawful (count ⨾ coordinator_field ⨾ flag ⨾ id ⨾ bandwidth ⨾ preferences v) _ _
    (pair_lawful count _ count_lawful (pair_lawful coordinator_field _ coordinator_lawful (pair_lawful flag _ flag_lawful (pair_lawful id _ id_lawful (pair_lawful bandwidth (preferences v) bandwidth_lawful (preferences_lawful v)))))) (λ f _. refl) (λ r. refl)

optional_lawful : (v : Version) → Lawful (optional_spec v)
unfolding optional_spec
optional_lawful v = tagged_lawful 0 1 has_of (λ has. part (eqb has 1) (spec v)) (omega arith) (λ has. part_lawful (eqb has 1) (spec v) (spec_lawful v)) tells
  where
    tells : (tag : ℕ) (o : Option SpecReg) → 0 ≤ tag → tag ≤ 1 → (part (eqb tag 1) (spec v)).has o → has_of o ≡ tag
    tells zero None low high h = refl
    tells zero (Some s) low high h = absurd cc
    tells (suc zero) None low high h = absurd h
    tells (suc zero) (Some s) low high h = refl
    tells (suc (suc tag)) o low high h = absurd (omega (arith, high))

pub task_lawful : (v : Version) → Lawful (task v)
unfolding task
task_lawful v = seen_lawful (attempt ⨾ phase ⨾ optional_spec v) _ _
    (pair_lawful attempt _ attempt_lawful (pair_lawful phase (optional_spec v) phase_lawful (optional_lawful v))) (λ f _. refl) (λ v. refl)

pub state_lawful : Lawful state
unfolding state
state_lawful = seen_lawful (count ⨾ coordinator_field ⨾ flag ⨾ number_field w32 1 1000 ⨾ bandwidth) _ _
    (pair_lawful count _ count_lawful (pair_lawful coordinator_field _ coordinator_lawful (pair_lawful flag _ flag_lawful (pair_lawful (number_field w32 1 1000) bandwidth slots_lawful bandwidth_lawful)))) (λ f _. refl) (λ r. refl)

pub report_lawful : Lawful report
unfolding report
report_lawful = seen_lawful (count ⨾ price_field) _ _ (pair_lawful count price_field count_lawful price_lawful) (λ f _. refl) (λ r. refl)

abbrev Known : Type 0
Known = Option MachineReg × Option Report

abbrev parts_at : ℕ → Format Known
parts_at tag = part (eqb tag 1 || eqb tag 3) state ⨾ part (eqb tag 2 || eqb tag 3) report

no_none : {A : Type 0} (a : A) → Some a ≡ None → ⊥
no_none a e = cc

parts_tell : (tag : ℕ) (a : Known) → 1 ≤ tag → tag ≤ 3 → (parts_at tag).has a → parts_of a ≡ tag
parts_tell zero a low high h = absurd (omega (arith, low))
parts_tell (suc zero) (None, r) low high h = absurd h.0
parts_tell (suc zero) (Some s, None) low high h = refl
parts_tell (suc zero) (Some s, Some r) low high h = absurd (no_none r h.1)
parts_tell (suc (suc zero)) (None, None) low high h = absurd h.1
parts_tell (suc (suc zero)) (None, Some r) low high h = refl
parts_tell (suc (suc zero)) (Some s, r) low high h = absurd (no_none s h.0)
parts_tell (suc (suc (suc zero))) (None, r) low high h = absurd h.0
parts_tell (suc (suc (suc zero))) (Some s, None) low high h = absurd h.1
parts_tell (suc (suc (suc zero))) (Some s, Some r) low high h = refl
parts_tell (suc (suc (suc (suc tag)))) a low high h = absurd (omega (arith, high))

parts_lawful : Lawful parts
unfolding parts
parts_lawful = tagged_lawful 1 3 parts_of parts_at (omega arith) (λ tag.
    pair_lawful (part (eqb tag 1 || eqb tag 3) state) (part (eqb tag 2 || eqb tag 3) report) (part_lawful (eqb tag 1 || eqb tag 3) state state_lawful) (part_lawful (eqb tag 2 || eqb tag 3) report report_lawful)) parts_tell

pub machine_lawful : Lawful machine
unfolding machine
machine_lawful = pair_lawful count parts count_lawful parts_lawful

pub spot_lawful : Lawful spot
unfolding spot
spot_lawful = seen_lawful (id ⨾ count) _ _ (pair_lawful id count id_lawful count_lawful) (λ f _. refl) (λ s. refl)

header_lawful : Lawful header
unfolding header
header_lawful = pair_lawful coordinator_field count coordinator_lawful count_lawful

version_lawful : Lawful version_word
unfolding version_word
version_lawful = seen_lawful (number_field w32 (word_of Fdg1) (word_of Fdg2)) version_from word_of (number_lawful w32 (2 ^ 32) (word_of Fdg1) (word_of Fdg2) wide32 (omega arith)) back forth
  where
    back : (n : ℕ) → (word_of Fdg1 ≤ n) × (n ≤ word_of Fdg2) → word_of (version_from n) ≡ n
    back n h = elim (eqb n (word_of Fdg1)) as (λ b. eqb n (word_of Fdg1) ≡ b → word_of (cond b Fdg1 Fdg2) ≡ n) [
      | true ↦ λ is. sym (eqb-true n (word_of Fdg1) is)
      | false ↦ λ is. let other : n ≢ word_of Fdg1 = eqb-false n (word_of Fdg1) is in omega (arith, h.0, h.1)
    ] refl

    forth : (v : Version) → version_from (word_of v) ≡ v
    forth Fdg1 = refl
    forth Fdg2 = refl

same_entry : TellsApart entry_cmp
same_entry = pair_same attempt_cmp nat_cmp same_attempt nat_same

entry_key : Lawful ((id ⨾ attempt) ⨾ coordinator_field)
entry_key = pair_lawful (id ⨾ attempt) coordinator_field (pair_lawful id attempt id_lawful attempt_lawful) coordinator_lawful

pub body_lawful : (v : Version) → Lawful (body v)
unfolding body
body_lawful v = seen_lawful (header ⨾ jobs ⨾ task_list v ⨾ machines ⨾ entry_list) _ _
    (pair_lawful header _ header_lawful
    (pair_lawful jobs _ (records_lawful nat_cmp nat_cmp_total nat_same id job id_lawful job_lawful)
    (pair_lawful (task_list v) _ (records_lawful nat_cmp nat_cmp_total nat_same id (task v) id_lawful (task_lawful v))
    (pair_lawful machines entry_list (records_lawful nat_cmp nat_cmp_total nat_same id machine id_lawful machine_lawful)
    (records_lawful entry_cmp entry_total same_entry ((id ⨾ attempt) ⨾ coordinator_field) spot entry_key spot_lawful))))) (λ f _. refl) (λ p. refl)

pub packet_lawful : Lawful packet
unfolding packet
packet_lawful = leading_lawful version_word body version_lawful body_lawful
