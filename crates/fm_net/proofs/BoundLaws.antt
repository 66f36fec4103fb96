-- The network of a possible table is possible.
use Rattle.std.specs.Prelude.{◌≡◌, ℕ, ◌+◌, ◌-◌, ◌/◌, ◌<◌, ◌≤◌, ◌^◌, Bool, true, false, cond, ◌==◌, ◌||◌, min, count_by, is_none, length, List, [], ◌∷◌, Option, Some, None, refl}
use Rattle.std.specs.List.{list_any}
use Rattle.std.proofs.Common.{sym, ap, ◌∙◌, subst, eq-eqb, arith}
use Rattle.std.proofs.lemmas.Bool.{eqb-true, leb-true, ltb-true}
use Rattle.std.proofs.lemmas.Nat.{le-div}
use Rattle.std.proofs.lemmas.List.Sums.{count_by-le-length, sum_by-cons}
use Rattle.fm_records.specs.declared.ops.Field.{Field}
use Rattle.fm_records.specs.declared.records.JobReg.{JobReg}
use Rattle.fm_records.specs.declared.records.SpecReg.{SpecReg}
use Rattle.fm_records.specs.declared.records.MachineReg.{MachineReg}
use Rattle.fm_records.specs.Options.{when, and_then}
use Rattle.fm_records.proofs.LookupLaws.{when_is_true, both_true}
use Rattle.fm_records.specs.OpsOfTable.{spec_op, machine_op, task_ops, machine_ops}
use Rattle.fm_records.specs.Ranges.{in_range, all_in_range, CanBe}
use Rattle.fm_records.proofs.RangeLaws.{when_value, job_in_range, task_in_range, machine_in_range}
use Rattle.fm_records.specs.Table.{Table, TaskValue, MachineValue}
use Rattle.fm_records.specs.Facts.{job_of, live_spec, open_state, load_of, holds}
use Rattle.fm_net.specs.declared.node.Node.{Node}
use Rattle.fm_net.specs.declared.node.Node.TheVariants.{Sink, Unscheduled, Request, Machine, Task}
use Rattle.fm_net.specs.Nodes.{IsInRange}
use Rattle.fm_net.specs.Net.{CanBeNet}
use Rattle.fm_net.proofs.ListLaws.{some_member}
use Rattle.fm_net.specs.Network.{is_held, is_live_of, waits_for, is_node, capacity_for, preferred_arc, arc_of, net_of}
use Rattle.fm_net.proofs.NetworkLaws.{passes_some, mapped_from, where_true, live_entry, open_entry, room_from, preferred_from, ends_of, is_network_of}

none : {A P : Type 0} {a : A} → None ≡ Some a → P
none e = absurd (let no : ⊥ = cc in no)

-- a field passes its test if none fails
unfailing : (f : Field) (b : Bool) (rest : Option Field) → is_none (cond b rest (Some f)) ≡ true → (b ≡ true) × (is_none rest ≡ true)
unfailing f true rest e = (refl, e)
unfailing f false rest e = absurd (let no : ⊥ = cc in no)

ne_zero : (n : ℕ) → (n == 0) ≡ false → n ≡ 0 → ⊥
ne_zero n e is = let no : true ≡ false = sym (eq-eqb n 0 is) ∙ e in cc

some_count : {X : Type 0} (p : X → Bool) (xs : List X) → list_any p xs ≡ true → 1 ≤ count_by p xs
some_count p [] h = absurd (let no : ⊥ = cc in no)
some_count p (x ∷ xs) h =
    let rest = some_count p xs in
    let at_least : 1 ≤ cond (p x) 1 0 + count_by p xs =
    elim (p x) as (λ b. (b || list_any p xs) ≡ true → 1 ≤ cond b 1 0 + count_by p xs) [
      | true ↦ λ _. omega arith
      | false ↦ λ g. omega (arith, rest g)
    ] h in
    subst (λ n. 1 ≤ n) (sym (sum_by-cons (λ y. cond (p y) 1 0) x xs)) at_least

-- What is in the ranges of a possible table.

module _ (k : Table) (is : CanBe k) where
  pub job_prices : (j : ℕ) (r : JobReg) → job_of k j ≡ Some r → (r.wait ≤ 1000000000) × (r.preempt ≤ 1000000000)
  job_prices j r e =
      let limits = (both_true _ _ (job_in_range k is j r e)).1 in
      let wait = unfailing _ _ _ (unfailing _ _ _ limits).1 in
      (leb-true r.wait 1000000000 wait.0, leb-true r.preempt 1000000000 (unfailing _ _ _ wait.1).0)

  spec_fine : (t : ℕ) (s : SpecReg) → live_spec k t ≡ Some s → in_range (spec_op t s) ≡ true
  spec_fine t s e =
      let f = live_entry k t s e in
      let whole : f.0 ≡ (Some s, f.0.1) = λ i. (f.2 i, f.0.1) in
      (both_true _ _ (subst (λ (v : TaskValue). all_in_range (task_ops (t, v)) ≡ true) whole (task_in_range k is t f.0 f.1))).0

  pub record Spec (t : ℕ) (s : SpecReg) : Type 0 where
    pub task : t < 2 ^ 128
    pub job : s.job < 2 ^ 128
    pub request : s.request ≤ 1000000

  pub spec_ranges : (t : ℕ) (s : SpecReg) → live_spec k t ≡ Some s → Spec t s
  spec_ranges t s e =
      let parts = both_true _ _ (spec_fine t s e) in
      let ids = both_true _ _ (both_true _ _ parts.0).0 in
      record {
        task = ltb-true t (2 ^ 128) (both_true _ _ ids.0).0;
        job = ltb-true s.job (2 ^ 128) ids.1;
        request = leb-true s.request 1000000 (unfailing _ _ _ (unfailing _ _ _ parts.1).1).0;
      }

  pub record State (m : ℕ) (r : MachineReg) : Type 0 where
    pub machine : m < 2 ^ 128
    pub slots_above : 1 ≤ r.slots
    pub slots_within : r.slots ≤ 1000
    pub nic : r.nic ≤ 1000000

  pub state_ranges : (m : ℕ) (r : MachineReg) → open_state k m ≡ Some r → State m r
  state_ranges m r e =
      let f = open_entry k m r e in
      let whole : f.0 ≡ (f.0.0, (Some r, f.0.1.1)) = λ i. (f.0.0, (f.2 i, f.0.1.1)) in
      let fine : in_range (machine_op m f.0.0 r) ≡ true = (both_true _ _ (subst (λ (v : MachineValue). all_in_range (machine_ops (m, v)) ≡ true) whole (machine_in_range k is m f.0 f.1))).0 in
      let parts = both_true _ _ fine in
      let slots = unfailing _ _ _ (unfailing _ _ _ parts.1).1 in
      let between = both_true _ _ slots.0 in
      record {
        machine = ltb-true m (2 ^ 128) (both_true _ _ (both_true _ _ parts.0).0).0;
        slots_above = leb-true 1 r.slots between.0;
        slots_within = leb-true r.slots 1000 between.1;
        nic = leb-true r.nic 1000000 (unfailing _ _ _ slots.1).0;
      }

  node_in_range : (n : Node) → is_node k n ≡ true → IsInRange n
  node_in_range Sink h = tt
  node_in_range (Unscheduled j) h =
      let e = some_member (λ x. is_live_of k j x.0) k.tasks h in
      let s = passes_some (λ s. s.job == j) (live_spec k e.0.0) e.2 in
      subst (λ n. n < 2 ^ 128) (eqb-true s.0.job j s.2) (spec_ranges e.0.0 s.0 s.1).job
  node_in_range (Request r) h =
      let e = some_member (λ x. waits_for k r x.0) k.tasks h in
      let s = passes_some (λ s. s.request == r) (live_spec k e.0.0) (both_true _ _ e.2).0 in
      subst (λ n. n ≤ 1000000) (eqb-true s.0.request r s.2) (spec_ranges e.0.0 s.0 s.1).request
  node_in_range (Machine m) h = let s = passes_some (λ r. true) (open_state k m) h in (state_ranges m s.0 s.1).machine
  node_in_range (Task t) h = let s = passes_some (λ s. true) (live_spec k t) h in (spec_ranges t s.0 s.1).task

  -- The capacities and costs of arcs.

  pub record Within (v : ℕ × ℕ) : Type 0 where
    pub above : 1 ≤ v.0
    pub fits : v.0 < 2 ^ 64
    pub cost : v.1 ≤ 1000000000

  within : (v w : ℕ × ℕ) → v ≡ w → 1 ≤ v.0 → v.0 < 2 ^ 64 → v.1 ≤ 1000000000 → Within w
  within v w e a b c = subst Within e (record { above = a; fits = b; cost = c })

  places_above : (state : MachineReg) (spare r : ℕ) → 1 ≤ state.slots → r ≤ spare → 1 ≤ capacity_for state spare r
  places_above state spare r h g =
      elim (r == 0) as (λ b. (r == 0) ≡ b → 1 ≤ cond b state.slots (min state.slots (spare / r))) [
        | true ↦ λ _. h
        | false ↦ λ e.
            let some : 0 < r = omega (arith, ne_zero r e) in
            let fit : 1 ≤ spare / r = le-div 1 spare r some (omega arith) in
            omega arith
      ] refl

  places_within : (state : MachineReg) (spare r : ℕ) → capacity_for state spare r ≤ state.slots
  places_within state spare r = elim (r == 0) as (λ b. cond b state.slots (min state.slots (spare / r)) ≤ state.slots) [ true ↦ omega arith | false ↦ omega arith ]

  module _ (few : length k.tasks < 2 ^ 64) where
    arc_within : (a b : Node) (v : ℕ × ℕ) → arc_of k a b ≡ Some v → Within v
    arc_within (Task t) (Request r) v e = within (1, 0) v (when_value (waits_for k r t) (1, 0) v e) (omega arith) (omega arith) (omega arith)
    arc_within (Task t) (Machine m) v e = elim (is_held k t) as (λ b. cond b (when (holds k m t) (1, 0)) (and_then (λ s. preferred_arc k s m) (live_spec k t)) ≡ Some v → Within v) [
      | true ↦ λ f. within (1, 0) v (when_value (holds k m t) (1, 0) v f) (omega arith) (omega arith) (omega arith)
      | false ↦ λ f.
          let p = preferred_from k t m v f in
          let room = p.1.room in
          let most = state_ranges m room.state room.opened in
          let cost : p.0.request + load_of k m ≡ p.1.place.1 = ap (λ (a : ℕ × ℕ). a.1) room.value in
          within _ v p.1.value (omega arith) (omega arith) (omega (arith, cost, room.within, room.room, most.nic))
    ] e
    arc_within (Task t) (Unscheduled j) v e =
        let job = mapped_from _ (job_of k j) v (where_true (is_live_of k j t) _ v e).1 in
        let prices = job_prices j job.0 job.1 in
        let price : cond (is_held k t) job.0.preempt job.0.wait ≤ 1000000000 =
        elim (is_held k t) as (λ b. cond b job.0.preempt job.0.wait ≤ 1000000000) [ true ↦ prices.1 | false ↦ prices.0 ] in
        within _ v job.2 (omega arith) (omega arith) price
    arc_within (Request r) (Machine m) v e =
        let p = room_from k r m v (where_true (is_node k (Request r)) _ v e).1 in
        let spare = p.state.nic - load_of k m in
        let ranges = state_ranges m p.state p.opened in
        let all : capacity_for p.state spare r ≤ p.state.slots = places_within p.state spare r in
        within _ v p.value (places_above p.state spare r ranges.slots_above p.room) (omega (arith, all, ranges.slots_within)) (omega (arith, p.within, p.room, ranges.nic))
    arc_within (Machine m) Sink v e =
        let state = mapped_from _ (open_state k m) v e in
        let ranges = state_ranges m state.0 state.1 in
        within _ v state.2 ranges.slots_above (omega (arith, ranges.slots_within)) (omega arith)
    arc_within (Unscheduled j) Sink v e =
        let some = some_count (λ x. is_live_of k j x.0) k.tasks (when_is_true (is_node k (Unscheduled j)) _ v e) in
        let most = count_by-le-length (λ x. is_live_of k j x.0) k.tasks in
        within _ v (when_value (is_node k (Unscheduled j)) _ v e) some (omega arith) (omega arith)
    arc_within _ _ v e = none e

    pub net_can_be : CanBeNet (net_of k)
    net_can_be =
        let net = is_network_of k in
        record {
          has_sink = net.each_node Sink;
          nodes_rise = net.nodes_rise;
          arcs_rise = net.arcs_rise;
          in_range = λ n h. node_in_range n (sym (net.each_node n) ∙ h);
          are_arcs = λ a b v h.
              let there : arc_of k a b ≡ Some v = sym (net.each_arc a b) ∙ h in
              let ends = ends_of k a b v there in
              let bounds = arc_within a b v there in
              record {
                from_stands = net.each_node a ∙ ends.from;
                to_stands = net.each_node b ∙ ends.to;
                kinds = ends.kinds;
                capacity_above = bounds.above;
                capacity_fits = bounds.fits;
                cost_within = bounds.cost;
              };
        }
