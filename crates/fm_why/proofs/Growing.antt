-- A machine's next state, once it is told, leaves all tasks where they are held: so the machine's load stays as it is.
use Rattle.std.proofs.Common.{◌≡◌, ◌∙◌, sym, subst, refl, ap, ℕ, ◌+◌, ◌-◌, ◌<◌, ◌≤◌, ◌==◌, ◌&&◌, true, false, cond, nat_le, [], ◌∷◌, Option, Some, None, arith, eq-eqb}
use Rattle.std.specs.Prelude.{filter, option_map, max, sum_by, IfSome}
use Rattle.std.specs.Ordering.{nat_cmp}
use Rattle.std.specs.Cmp.{nat_cmp_total}
use Rattle.std.specs.declared.cmp.Ordering.TheVariants.{Less, Equal, Greater}
use Rattle.std.proofs.lemmas.Bool.{eqb-true, leb-true}
use Rattle.std.proofs.lemmas.Cmp.{ranked}
use Rattle.fm_lattice.specs.Chains.{by_order}
use Rattle.fm_lattice.specs.laws.ChainLaws.{nat_same}
use Rattle.fm_lattice.specs.Joins.{max_join, option_join}
use Rattle.fm_lattice.specs.Maps.{lookup}
use Rattle.fm_lattice.specs.laws.MapLaws.{lookup_join}
use Rattle.fm_records.specs.declared.ops.Op.{Op}
use Rattle.fm_records.specs.declared.ops.Op.TheVariants as op
use Rattle.fm_records.specs.declared.records.MachineReg.{MachineReg}
use Rattle.fm_records.specs.declared.records.Report.{Report}
use Rattle.fm_records.specs.declared.records.Spot.{Spot}
use Rattle.fm_records.specs.Options.{when, and_then, or_else, only_if, passes}
use Rattle.fm_records.specs.Orders.{machine_cmp, report_cmp}
use Rattle.fm_records.specs.Table.{Table, MachineValue}
use Rattle.fm_records.specs.Know.{table_of, state_in, machine, machine_at, incarnation, state_at}
use Rattle.fm_records.proofs.LookupLaws.{lookup_machine, when_is_true}
use Rattle.fm_records.proofs.RangeLaws.{know_table, inside, when_value}
use Rattle.fm_records.specs.OpsOfTable.{IsTable}
use Rattle.fm_records.specs.Joined.{machine_join}
use Rattle.fm_records.specs.Facts.{machine_state, incarnation_of, used_of, open_state, is_open, is_present, is_live, won_spot, holder_of, request_of, load_of, spare_of, has_room}
use Rattle.fm_know.specs.Mutators.{next_version, state_version, next_machine_op}
use Rattle.fm_know.proofs.AfterTelling.{state_told, incarnation_told}
use Rattle.fm_net.proofs.NetworkLaws.{came_from, mapped_from, only_if_some}
use Rattle.fm_why.specs.declared.reasons.Change.{Change}
use Rattle.fm_why.specs.declared.reasons.Change.TheVariants.{Bandwidth}
use Rattle.fm_why.specs.Remedies.{more_slots, more_bandwidth, change_op, with_op}

none_joined : (o : Option Report) → option_join (max_join report_cmp) o None ≡ o
none_joined None = refl
none_joined (Some r) = refl

-- a state joined at the present incarnation leaves the report
report_after : (i : ℕ) (r : MachineReg) (o : Option MachineValue) → option_map (λ v. v.0) o ≡ Some i → and_then (λ v. v.1.1) (option_join machine_join o (Some (i, (Some r, None)))) ≡ and_then (λ v. v.1.1) o
report_after i r None e = absurd (let no : ⊥ = cc in no)
report_after i r (Some (p, (s, report))) e =
    let same : p ≡ i = inside p i e in
    elim (nat_cmp p i) as (λ c. nat_cmp p i ≡ c → (by_order {A = MachineValue} c (i, (Some r, None)) (p, (option_join (max_join machine_cmp) s (Some r), option_join (max_join report_cmp) report None)) (p, (s, report))).1.1 ≡ report) [
      | Less ↦ λ l. let below : p < i = ranked p i Less (sym l) in absurd (omega (arith, same))
      | Equal ↦ λ _. none_joined report
      | Greater ↦ λ _. refl
    ] refl

module _ (k : Table) (form : IsTable k) (m i v writer slots nic : ℕ) (state : MachineReg) (opened : open_state k m ≡ Some state) (now : incarnation_of k m ≡ Some i) (next : next_version (state_version k m i) ≡ Some v) where
  abbrev told : Op
  told = op.Machine m i v writer state.up slots nic

  abbrev after : Table
  after = with_op k told

  abbrev register : MachineReg
  register = record { version = v; writer = writer; up = state.up; slots = slots; nic = nic }

  below : IfSome (incarnation_of k m) (λ p. p ≤ i)
  below = subst (λ o. IfSome o (λ p. p ≤ i)) (sym now) (omega arith)

  found : (q : ℕ) → lookup nat_cmp q after.machines ≡ option_join machine_join (lookup nat_cmp q k.machines) (machine (told ∷ []) q)
  found q =
      lookup_join nat_cmp nat_cmp_total nat_same machine_join q k.machines (table_of (told ∷ [])).machines form.machines.rising (know_table (told ∷ [])).machines.rising
      ∙ ap (option_join machine_join (lookup nat_cmp q k.machines)) (lookup_machine (told ∷ []) q)

  none_to : (o : Option MachineValue) → option_join machine_join o None ≡ o
  none_to None = refl
  none_to (Some v) = refl

  elsewhere : (q : ℕ) → (m == q) ≡ false → lookup nat_cmp q after.machines ≡ lookup nat_cmp q k.machines
  elsewhere q apart =
      let none : machine (told ∷ []) q ≡ None = rw apart refl in
      found q ∙ ap (option_join machine_join (lookup nat_cmp q k.machines)) none ∙ none_to (lookup nat_cmp q k.machines)

  itself : (m == m) ≡ true
  itself = eq-eqb m m refl

  present : (i == i) ≡ true
  present = eq-eqb i i refl

  one : machine (told ∷ []) m ≡ Some (i, (Some register, None))
  one =
      let named : incarnation (told ∷ []) m ≡ Some i = rw itself refl in
      let said : state_at (told ∷ []) m i ≡ Some register = rw (itself, present) refl in
      ap (option_map (machine_at (told ∷ []) m)) named ∙ (λ j. Some (i, (said j, None)))

  used : used_of after m ≡ used_of k m
  used = ap (λ r. or_else 0 (option_map (λ (r : Report). r.used) r)) (ap (and_then (λ v. v.1.1)) (found m ∙ ap (option_join machine_join (lookup nat_cmp m k.machines)) one) ∙ report_after i register (lookup nat_cmp m k.machines) now)

  up_now : state.up ≡ true
  up_now = (only_if_some (λ (r : MachineReg). r.up) (machine_state k m) state opened).1

  open_after : open_state after m ≡ Some register
  open_after =
      let said : state_in m i told ≡ Some register = rw (itself, present) refl in
      ap (only_if (λ (r : MachineReg). r.up)) (state_told k form m i v writer state.up slots nic next below ∙ said) ∙ ap (λ b. when b register) up_now

  stays_open : is_open after m ≡ is_open k m
  stays_open = ap (passes (λ r. true)) open_after ∙ sym (ap (passes (λ r. true)) opened)

  stays_incarnation : incarnation_of after m ≡ incarnation_of k m
  stays_incarnation = incarnation_told k form m i v writer state.up slots nic next below ∙ sym now

  abbrev AlikeAt : ℕ → Type 0
  AlikeAt q = (c : ℕ) → (is_open after q && passes (λ p. p == c) (incarnation_of after q)) ≡ (is_open k q && passes (λ p. p == c) (incarnation_of k q))

  alike : (q : ℕ) → AlikeAt q
  alike q = elim (m == q) as (λ b. (m == q) ≡ b → AlikeAt q) [
    | true ↦ λ e. subst AlikeAt (eqb-true m q e) (λ c j. stays_open j && passes (λ p. p == c) (stays_incarnation j))
    | false ↦ λ e c. ap (λ (o : Option MachineValue). passes (λ r. true) (only_if (λ r. r.up) (and_then (λ v. v.1.0) o)) && passes (λ p. p == c) (option_map (λ v. v.0) o)) (elsewhere q e)
  ] refl

  present_alike : (s : Spot) → is_present after s ≡ is_present k s
  present_alike s = alike s.machine s.incarnation

  holder_alike : (t : ℕ) → holder_of after t ≡ holder_of k t
  holder_alike t = λ j. cond (is_live k t) (option_map (λ s. s.machine) (only_if (λ s. present_alike s j) (won_spot k t))) None

  load_alike : load_of after m ≡ load_of k m
  load_alike = λ j. max (used j) (sum_by (λ e. request_of e.1.0) (filter (λ e. passes (λ h. h == m) (holder_alike e.0 j)) k.tasks))

  pub spare_after : spare_of after m ≡ when (nat_le (load_of k m) nic) (nic - load_of k m)
  spare_after = λ j. and_then (λ r. when (nat_le (load_alike j) r.nic) (r.nic - load_alike j)) (open_after j)

-- what the machine has to spare once a change of it is told
pub record Grown (k : Table) (m : ℕ) (change : Change) (o : Op) : Type 0 where
  pub state : MachineReg
  pub opened : open_state k m ≡ Some state
  pub spare : spare_of (with_op k o) m ≡ when (nat_le (load_of k m) (state.nic + more_bandwidth change)) (state.nic + more_bandwidth change - load_of k m)

module _ (k : Table) (form : IsTable k) (m : ℕ) (change : Change) (o : Op) where
  grown_at : (s : MachineReg) → open_state k m ≡ Some s → (i : ℕ) → incarnation_of k m ≡ Some i → (v : ℕ) → next_version (state_version k m i) ≡ Some v → op.Machine m i v s.writer s.up (s.slots + more_slots change) (s.nic + more_bandwidth change) ≡ o → Grown k m change o
  grown_at s opened i now v next is = record {
    state = s;
    opened = opened;
    spare =
        ap (λ (p : Op). spare_of (with_op k p) m) (sym is) ∙ spare_after k form m i v s.writer (s.slots + more_slots change) (s.nic + more_bandwidth change) s opened now next;
  }

  grown_from : (s : MachineReg) → open_state k m ≡ Some s → (i : ℕ) → incarnation_of k m ≡ Some i → next_machine_op k m i s.writer s.up (s.slots + more_slots change) (s.nic + more_bandwidth change) ≡ Some o → Grown k m change o
  grown_from s opened i now e =
      let version = mapped_from (λ v. op.Machine m i v s.writer s.up (s.slots + more_slots change) (s.nic + more_bandwidth change)) (next_version (state_version k m i)) o e in
      grown_at s opened i now version.0 version.1 version.2

  pub grown : change_op k m change ≡ Some o → Grown k m change o
  grown e =
      let state = came_from (λ (s : MachineReg). and_then (λ i. next_machine_op k m i s.writer s.up (s.slots + more_slots change) (s.nic + more_bandwidth change)) (incarnation_of k m)) (open_state k m) o e in
      let at = came_from (λ i. next_machine_op k m i state.0.writer state.0.up (state.0.slots + more_slots change) (state.0.nic + more_bandwidth change)) (incarnation_of k m) o state.2 in
      grown_from state.0 state.1 at.0 at.1 at.2

-- less bandwidth than what leaves just the request leaves no room for it
shut : (load nic by less r : ℕ) → when (nat_le load (nic + by)) (nic + by - load) ≡ Some r → less < by → passes (λ s. nat_le r s) (when (nat_le load (nic + less)) (nic + less - load)) ≡ false
shut load nic by less r e below =
    let within = leb-true load (nic + by) (when_is_true _ _ r e) in
    let is : nic + by - load ≡ r = when_value _ _ r e in
    elim (nat_le load (nic + less)) as (λ b. nat_le load (nic + less) ≡ b → passes (λ s. nat_le r s) (when b (nic + less - load)) ≡ false) [
      | true ↦ λ h. let also = leb-true load (nic + less) h in grind (arith, within, also, below, is)
      | false ↦ λ _. refl
    ] refl

pub no_less : (k : Table) → IsTable k → (m r by less : ℕ) (o p : Op) → change_op k m (Bandwidth by) ≡ Some o → change_op k m (Bandwidth less) ≡ Some p → less < by → spare_of (with_op k o) m ≡ Some r → has_room (with_op k p) m r ≡ false
no_less k form m r by less o p told also below tight =
    let a = grown k form m (Bandwidth by) o told in
    let b = grown k form m (Bandwidth less) p also in
    let same : b.state ≡ a.state = inside b.state a.state (sym b.opened ∙ a.opened) in
    ap (passes (λ s. nat_le r s)) (b.spare ∙ ap (λ (s : MachineReg). when (nat_le (load_of k m) (s.nic + less)) (s.nic + less - load_of k m)) same)
    ∙ shut (load_of k m) a.state.nic by less r (sym a.spare ∙ tight) below
