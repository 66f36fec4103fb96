-- Packets, their bytes, and the values of the format.
use Rattle.std.proofs.Common.{◌≡◌, ℕ, true, List, [], ◌∷◌, ◌++◌, length, Some, None, Result, Ok, Err, refl, sym, ap, subst, ◌∙◌, arith}
use Rattle.std.specs.Prelude.{flat_map, nat_le, ◌&&◌}
use Rattle.std.proofs.lemmas.Bool.{leb-true, le-leb}
use Rattle.std.specs.List.{AllByRecursion}
use Rattle.std.specs.declared.cmp.Ordering.TheVariants.{Less, Equal}
use Rattle.std.proofs.lemmas.Cmp.{tied_itself}
use Rattle.std.proofs.lemmas.List.{append-nil}
use Rattle.fm_lattice.specs.Maps.{IsBelow, IsRising, IsMap}
use Rattle.fm_records.specs.declared.records.JobReg.{JobReg}
use Rattle.fm_records.specs.declared.records.Spot.{Spot}
use Rattle.fm_records.specs.Orders.{attempt_cmp}
use Rattle.fm_records.specs.OpsOfTable.{job_op, job_ops, task_ops, machine_ops, entry_ops, IsFull}
use Rattle.fm_records.specs.Ranges.{in_range, all_in_range, CanBe}
use Rattle.fm_records.proofs.LookupLaws.{both_true}
use Rattle.fm_records.proofs.RangeLaws.{all_pass, both_pass}
use Rattle.fm_delta.specs.declared.packet.Packet.{Packet}
use Rattle.fm_wire.specs.Formats.{◌⨾◌, fault_place}
use Rattle.fm_wire.specs.declared.version.Version.{Version}
use Rattle.fm_wire.specs.declared.version.Version.TheVariants.{Fdg1, Fdg2}
use Rattle.fm_wire.specs.Grammar.{id, attempt, coordinator_field, job, task, machine, spot, Listed, lists_of, entry_cmp, flat_at, flat_of, header, body, version_word, packet, spelling_in, fault, IsPacket, CanSpell, Spells, IsSpelling}
use Rattle.fm_wire.proofs.Widths.{IsBytes}
use Rattle.fm_wire.proofs.PacketLawful.{packet_lawful}
use Rattle.fm_wire.proofs.Grouped.{entry_total, entries_rise, full_rise, AreGroups, groups_begin, groups_end, entry_step, with_entry, below_groups}
use Rattle.fm_wire.proofs.InRange.{job_in, job_out, tasks_in, tasks_can, task_out, list_in, list_out, machine_out, machines_in, machines_parts, any_values, entries_in, entries_out}

abbrev Groups : Type 0
Groups = List ((ℕ × ℕ) × List (ℕ × Spot))

abbrev Entries : Type 0
Entries = List (((ℕ × ℕ) × ℕ) × Spot)

-- ---- the format has each packet

job_one : (e : ℕ × JobReg) → all_in_range (job_ops e) ≡ true → id.has e.0 × job.has e.1
job_one e h = job_in e.0 e.1 (both_true (in_range (job_op e.0 e.1)) true h).0

one_job : (e : ℕ × JobReg) → id.has e.0 × job.has e.1 → all_in_range (job_ops e) ≡ true
one_job e h = rw (job_out e.0 e.1 h) refl

version_has : (v : Version) → version_word.has v
unfolding version_word
version_has Fdg1 = (omega arith, omega arith)
version_has Fdg2 = (omega arith, omega arith)

body_has : (v : Version) (p : Packet) → IsPacket p → CanSpell v p → (body v).has (lists_of p)
unfolding body header
body_has v p is can =
    let k = p.value in
    let table = is.value.table in
    let js : List _ = flat_map job_ops k.jobs in
    let ts : List _ = flat_map task_ops k.tasks in
    let ms : List _ = flat_map machine_ops k.machines in
    let es : List _ = flat_map entry_ops k.proposals in
    let a = both_pass in_range ((js ++ ts) ++ ms) es is.value.in_range in
    let b = both_pass in_range (js ++ ts) ms a.0 in
    let c = both_pass in_range js ts b.0 in
    let sender = both_true (nat_le 1 p.sender) (nat_le p.sender 64) is.sender in (
      ((leb-true 1 p.sender sender.0, leb-true p.sender 64 sender.1), (omega arith, omega (arith, is.number))),
      (
        (omega (arith, is.jobs), table.jobs.rising, list_in job_ops (λ e. id.has e.0 × job.has e.1) k.jobs job_one c.0),
        (
          (omega (arith, is.tasks), table.tasks.rising, tasks_in v p can c.1),
          (
            (omega (arith, is.machines), table.machines.rising, machines_in k.machines table.machines.values b.1),
            (omega (arith, is.entries), entries_rise k.proposals table.proposals.rising (full_rise k.proposals table.proposals.values), entries_in k.proposals a.1),
          ),
        ),
      ),
    )

packet_has : (v : Version) (p : Packet) → IsPacket p → CanSpell v p → packet.has (v, lists_of p)
unfolding packet
packet_has v p is can = (version_has v, body_has v p is can)

-- ---- knowledge of what the format has

pub found_can_be : (v : Version) (w : Listed) (groups : Groups) → (body v).has w → flat_of groups ≡ w.entries → IsMap attempt_cmp IsFull groups → CanBe (record { jobs = w.jobs; tasks = w.tasks; machines = w.machines; proposals = groups })
unfolding body header
found_can_be v w groups has is map =
    let js = has.1.0 in
    let ts = has.1.1.0 in
    let ms = has.1.1.1.0 in
    let es = has.1.1.1.1 in
    let fields = subst (AllByRecursion (λ (e : ((ℕ × ℕ) × ℕ) × Spot). ((id ⨾ attempt) ⨾ coordinator_field).has e.0 × spot.has e.1)) (sym is) es.2 in
    record {
      table = record {
        jobs = record { rising = js.1; values = any_values w.jobs };
        tasks = record { rising = ts.1; values = any_values w.tasks };
        machines = record { rising = ms.1; values = machines_parts w.machines ms.2 };
        proposals = map;
      };
      in_range =
          all_pass in_range ((flat_map job_ops w.jobs ++ flat_map task_ops w.tasks) ++ flat_map machine_ops w.machines) (flat_map entry_ops groups)
          (all_pass in_range (flat_map job_ops w.jobs ++ flat_map task_ops w.tasks) (flat_map machine_ops w.machines)
          (all_pass in_range (flat_map job_ops w.jobs) (flat_map task_ops w.tasks)
          (list_out job_ops (λ e. id.has e.0 × job.has e.1) w.jobs one_job js.2)
          (list_out task_ops (λ e. id.has e.0 × (task v).has e.1) w.tasks (λ e h. task_out v e.0 e.1 h) ts.2))
          (list_out machine_ops (λ e. id.has e.0 × machine.has e.1) w.machines (λ e h. (machine_out e.0 e.1 h).1) ms.2))
          (entries_out groups fields);
    }

found_is_packet : (v : Version) (p : Packet) → (body v).has (lists_of p) → CanBe p.value → IsPacket p
unfolding body header
found_is_packet v p has value = record {
  sender = λ i. le-leb 1 p.sender has.0.0.0 i && le-leb p.sender 64 has.0.0.1 i;
  number = omega (arith, has.0.1.1);
  value = value;
  jobs = omega (arith, has.1.0.0);
  tasks = omega (arith, has.1.1.0.0);
  machines = omega (arith, has.1.1.1.0.0);
  entries = omega (arith, has.1.1.1.1.0);
}

found_can_spell : (v : Version) (p : Packet) → (body v).has (lists_of p) → CanSpell v p
unfolding body
found_can_spell v p has = tasks_can v p has.1.1.0.2

-- ---- each value of the format is a packet's

group_all : (groups : Groups) (left all : Entries) → IsRising entry_cmp all → AreGroups groups left all → (g : Groups) × AreGroups g [] all
group_all groups [] all r so_far = (groups, so_far)
group_all groups (((at, c), s) ∷ left) all r so_far = group_all (with_entry at c s groups) left all r (entry_step at c s groups (with_entry at c s groups) (((at, c), s) ∷ left) left all refl r so_far refl)

pub grouped : (all : Entries) → IsRising entry_cmp all → (g : Groups) × (flat_of g ≡ all) × IsMap attempt_cmp IsFull g
grouped all r =
    let g = group_all [] all all r (groups_begin [] all all refl refl) in
    (g.0, groups_end g.0 [] all refl g.1, record { rising = g.1.rising; values = g.1.full })

entries_rising : (v : Version) (w : Listed) → (body v).has w → IsRising entry_cmp w.entries
unfolding body
entries_rising v w has = has.1.1.1.1.1

-- what a version has is a packet that it can spell
record IsOf (v : Version) (w : Listed) : Type 0 where
  told : Packet
  packet : IsPacket told
  can_spell : CanSpell v told
  same : lists_of told ≡ w

is_of : (v : Version) (w : Listed) → (body v).has w → IsOf v w
is_of v w has =
    let g = grouped w.entries (entries_rising v w has) in
    let p : Packet = record { sender = w.sender; number = w.number; value = record { jobs = w.jobs; tasks = w.tasks; machines = w.machines; proposals = g.0 } } in
    let same : lists_of p ≡ w = λ i. record { sender = w.sender; number = w.number; jobs = w.jobs; tasks = w.tasks; machines = w.machines; entries = g.1 i } in
    let told = subst (body v).has (sym same) has in
    record { told = p; packet = found_is_packet v p told (found_can_be v w g.0 has g.1 g.2); can_spell = found_can_spell v p told; same = same }

-- ---- a list of entries is of one grouping

pair_key : (at : ℕ × ℕ) (c : ℕ) (e : ((ℕ × ℕ) × ℕ) × Spot) (es rest : Entries) → IsBelow entry_cmp (at, c) es → es ≡ e ∷ rest → entry_cmp (at, c) e.0 ≡ Less
pair_key at c e es rest b is = (subst (IsBelow entry_cmp (at, c)) is b).0

not_itself : (k : (ℕ × ℕ) × ℕ) → entry_cmp k k ≡ Less → ⊥
not_itself k h = let eq : entry_cmp k k ≡ Equal = tied_itself entry_total k in less_equal (sym h ∙ eq)
  where
    less_equal : Less ≡ Equal → ⊥
    less_equal e = cc

abbrev Spots : Type 0
Spots = List (ℕ × Spot)

abbrev heads : {X : Type 0} → X → List X → X
heads x [] = x
heads x (y ∷ ys) = y

abbrev tails : {X : Type 0} → List X → List X
tails [] = []
tails (y ∷ ys) = ys

one_split : (at : ℕ × ℕ) (x y : Spots) (a b : Entries) → ((c : ℕ) → IsBelow entry_cmp (at, c) a) → ((c : ℕ) → IsBelow entry_cmp (at, c) b) → flat_at at x ++ a ≡ flat_at at y ++ b → (x ≡ y) × (a ≡ b)
one_split at [] [] a b p q e = (refl, e)
one_split at [] (s ∷ y) a b p q e = absurd (not_itself (at, s.0) (pair_key at s.0 ((at, s.0), s.1) a (flat_at at y ++ b) (p s.0) e))
one_split at (s ∷ x) [] a b p q e = absurd (not_itself (at, s.0) (pair_key at s.0 ((at, s.0), s.1) b (flat_at at x ++ a) (q s.0) (sym e)))
one_split at (s ∷ x) (t ∷ y) a b p q e =
    let first : ((at, s.0), s.1) ≡ ((at, t.0), t.1) = ap (heads ((at, s.0), s.1)) e in
    let same : s ≡ t = λ i. ((first i).0.1, (first i).1) in
    let rest = one_split at x y a b p q (ap tails e) in
    ((λ i. same i ∷ rest.0 i), rest.1)

empty_full : IsFull [] → ⊥
empty_full f = let h = f.full in absurd cc

pub one_grouping : (a b : Groups) → IsMap attempt_cmp IsFull a → IsMap attempt_cmp IsFull b → flat_of a ≡ flat_of b → a ≡ b
one_grouping [] [] p q e = refl
one_grouping [] ((at, []) ∷ b) p q e = absurd (empty_full q.values.0)
one_grouping [] ((at, s ∷ spots) ∷ b) p q e = absurd cc
one_grouping ((at, []) ∷ a) b p q e = absurd (empty_full p.values.0)
one_grouping ((at, s ∷ spots) ∷ a) [] p q e = absurd cc
one_grouping ((at, s ∷ spots) ∷ a) ((to, []) ∷ b) p q e = absurd (empty_full q.values.0)
one_grouping ((at, s ∷ spots) ∷ a) ((to, t ∷ more) ∷ b) p q e =
    let first : ((at, s.0), s.1) ≡ ((to, t.0), t.1) = ap (heads ((at, s.0), s.1)) e in
    let key : to ≡ at = λ i. (sym first i).0.0 in
    let aligned : flat_at at (s ∷ spots) ++ flat_of a ≡ flat_at at (t ∷ more) ++ flat_of b = e ∙ ap (λ z. flat_at z (t ∷ more) ++ flat_of b) key in
    let parts = one_split at (s ∷ spots) (t ∷ more) (flat_of a) (flat_of b) (λ c. below_groups at c a p.rising.0) (λ c. below_groups at c b (subst (λ z. IsBelow attempt_cmp z b) key q.rising.0)) aligned in
    let rest = one_grouping a b (record { rising = p.rising.1; values = p.values.1 }) (record { rising = q.rising.1; values = q.values.1 }) parts.1 in
    λ i. (sym key i, parts.0 i) ∷ rest i

-- ---- the laws of spellings

abbrev Told : Type 0
Told = Version × Listed

read_again : (v : Version) (p : Packet) (rest : List ℕ) → IsPacket p → CanSpell v p → packet.read (spelling_in v p ++ rest) ≡ Ok ((v, lists_of p), rest)
read_again v p rest is can = packet_lawful.again (v, lists_of p) rest (packet_has v p is can)

abbrev read_of : Told × List ℕ → Result (Told × List ℕ) ℕ
read_of x = Ok x

same_read : (x y : Told × List ℕ) → read_of x ≡ read_of y → x ≡ y
same_read x y e = cc

same_listed : (p q : Packet) → IsPacket p → IsPacket q → lists_of p ≡ lists_of q → p ≡ q
same_listed p q is_p is_q e =
    let groups = one_grouping p.value.proposals q.value.proposals is_p.value.table.proposals is_q.value.table.proposals (ap (λ (w : Listed). w.entries) e) in
    λ i. record { sender = (e i).sender; number = (e i).number; value = record { jobs = (e i).jobs; tasks = (e i).tasks; machines = (e i).machines; proposals = groups i } }

-- what begins with a packet's bytes and is a packet's bytes is that packet's, in that version, and has nothing after
-- them
pub begins : (v w : Version) (p q : Packet) (rest : List ℕ) → IsPacket p → IsPacket q → CanSpell v p → CanSpell w q → spelling_in v p ++ rest ≡ spelling_in w q → (v ≡ w) × (p ≡ q) × (rest ≡ [])
begins v w p q rest is_p is_q can_p can_q e =
    let left = read_again v p rest is_p can_p in
    let right = read_again w q [] is_q can_q in
    let same : ((v, lists_of p), rest) ≡ ((w, lists_of q), []) = same_read ((v, lists_of p), rest) ((w, lists_of q), []) (sym left ∙ ap packet.read (e ∙ sym (append-nil (spelling_in w q))) ∙ right) in (
      ap (λ (x : Told × List ℕ). x.0.0) same,
      same_listed p q is_p is_q (ap (λ (x : Told × List ℕ). x.0.1) same),
      ap (λ (x : Told × List ℕ). x.1) same,
    )

no_place : (n : ℕ) → Some n ≡ None → ⊥
no_place n e = cc

-- if there is no fault, the format's reading took all
whole_of : (bytes : List ℕ) (r : Result (Told × List ℕ) ℕ) → packet.read bytes ≡ r → fault_place (length bytes) r ≡ None → (x : Told) × (packet.read bytes ≡ Ok (x, []))
whole_of bytes (Ok (x, [])) e h = (x, e)
whole_of bytes (Ok (x, y ∷ rest)) e h = absurd (no_place _ h)
whole_of bytes (Err left) e h = absurd (no_place _ h)

-- what the format has of a version is what the version has
has_body : (x : Told) → packet.has x → (body x.0).has x.1
unfolding packet
has_body x has = has.1

pub spelled_where_none : (bytes : List ℕ) → IsBytes bytes → fault bytes ≡ None → IsSpelling bytes
spelled_where_none bytes fits none =
    let w = whole_of bytes (packet.read bytes) refl none in
    let took = packet_lawful.takes bytes w.0 [] fits w.1 in
    let v = w.0.0 in
    let p = is_of v w.0.1 (has_body w.0 took.has) in
    (p.told, p.packet, (v, p.can_spell, took.whole ∙ append-nil (packet.spell w.0) ∙ ap (λ (z : Listed). packet.spell (v, z)) (sym p.same)))

pub none_where_spelled : (bytes : List ℕ) → IsSpelling bytes → fault bytes ≡ None
none_where_spelled bytes (p, is, s) =
    let read : packet.read bytes ≡ Ok ((s.0, lists_of p), []) = ap packet.read (s.2 ∙ sym (append-nil (spelling_in s.0 p))) ∙ read_again s.0 p [] is s.1 in
    ap (fault_place (length bytes)) read

-- what was found in bytes without fault is the packet that they spell
pub found_spelled : (bytes : List ℕ) (v : Version) (p : Packet) (rest : List ℕ) → IsBytes bytes → packet.read bytes ≡ Ok ((v, lists_of p), rest) → fault bytes ≡ None → Spells bytes p
found_spelled bytes v p rest fits e none =
    let w = whole_of bytes (packet.read bytes) refl none in
    let same : ((v, lists_of p), rest) ≡ (w.0, []) = same_read ((v, lists_of p), rest) (w.0, []) (sym e ∙ w.1) in
    let took = packet_lawful.takes bytes (v, lists_of p) rest fits e in
    (v, found_can_spell v p (has_body (v, lists_of p) took.has), took.whole ∙ ap (λ (x : Told × List ℕ). spelling_in v p ++ x.1) same ∙ append-nil (spelling_in v p))

pub found_packet : (bytes : List ℕ) (v : Version) (p : Packet) (rest : List ℕ) → IsBytes bytes → packet.read bytes ≡ Ok ((v, lists_of p), rest) → CanBe p.value → IsPacket p
found_packet bytes v p rest fits e value = found_is_packet v p (has_body (v, lists_of p) (packet_lawful.takes bytes (v, lists_of p) rest fits e).has) value
