-- In a network that the policy builds, an arc with a cost has room for at most 1,000 units, so no cost grows beyond measure.
use Rattle.std.proofs.Common.{◌≡◌, ◌∙◌, ◌≤◌, ◌⊎◌, ap, sym, subst, refl, inl, inr, ℕ, ◌*◌, true, false, cond, ◌==◌, ◌/◌, min, List, [], ◌∷◌, Some, None, length, arith}
use Rattle.std.specs.List.{sum_by}
use Rattle.std.proofs.lemmas.List.Sums.{sum_by-cons}
use Rattle.std.proofs.Math.Nat.{mul-le-mul, mul-suc, zero-mul}
use Rattle.fm_records.specs.declared.records.MachineReg.{MachineReg}
use Rattle.fm_records.specs.Options.{when, and_then}
use Rattle.fm_records.proofs.RangeLaws.{when_value}
use Rattle.fm_records.specs.Sets.{IsMember}
use Rattle.fm_records.specs.Table.{Table}
use Rattle.fm_records.specs.Ranges.{CanBe}
use Rattle.fm_records.specs.Facts.{job_of, live_spec, open_state, spare_of, holds}
use Rattle.fm_net.specs.declared.node.Node.{Node}
use Rattle.fm_net.specs.declared.node.Node.TheVariants.{Sink, Unscheduled, Request, Machine, Task}
use Rattle.fm_net.specs.Net.{Net, CanBeNet, arc_at}
use Rattle.fm_net.specs.Network.{is_held, is_live_of, waits_for, is_node, capacity_for, place_arc, preferred_arc, arc_of}
use Rattle.fm_net.proofs.NetworkLaws.{came_from, mapped_from, where_true, preferred_from, is_network_of}
use Rattle.fm_net.proofs.BoundLaws.{state_ranges}
use Rattle.fm_certificate.specs.Flows.{Units, cost_of, IsFeasible}
use Rattle.fm_certificate.specs.PolicyNetwork.{IsBuilt}
use Rattle.fm_certificate.proofs.Exchange.{Arc}
use Rattle.fm_certificate.proofs.Least.{arc_member}

none : {A P : Type 0} {a : A} → None ≡ Some a → P
none e = absurd (let no : ⊥ = cc in no)

-- no cost, or room for at most 1,000
abbrev IsModest : ℕ × ℕ → Type 0
IsModest arc = (arc.1 ≡ 0) ⊎ (arc.0 ≤ 1000)

free : (capacity : ℕ) (arc : ℕ × ℕ) → (capacity, 0) ≡ arc → IsModest arc
free capacity arc e = inl (sym (ap (λ (v : ℕ × ℕ). v.1) e))

small : (v arc : ℕ × ℕ) → v ≡ arc → v.0 ≤ 1000 → IsModest arc
small v arc e h = inr (subst (λ (w : ℕ × ℕ). w.0 ≤ 1000) e h)

few_places : (state : MachineReg) (spare r : ℕ) → capacity_for state spare r ≤ state.slots
few_places state spare r = elim (r == 0) as (λ b. cond b state.slots (min state.slots (spare / r)) ≤ state.slots) [ true ↦ omega arith | false ↦ omega arith ]

module _ (k : Table) (is : CanBe k) where
  modest : (a b : Node) (v : ℕ × ℕ) → arc_of k a b ≡ Some v → IsModest v
  modest (Task t) (Request r) v e = free 1 v (when_value (waits_for k r t) (1, 0) v e)
  modest (Task t) (Machine m) v e = elim (is_held k t) as (λ b. cond b (when (holds k m t) (1, 0)) (and_then (λ s. preferred_arc k s m) (live_spec k t)) ≡ Some v → IsModest v) [
    | true ↦ λ f. free 1 v (when_value (holds k m t) (1, 0) v f)
    | false ↦ λ f. small _ v (preferred_from k t m v f).1.value (omega arith)
  ] e
  modest (Task t) (Unscheduled j) v e =
      let job = mapped_from _ (job_of k j) v (where_true (is_live_of k j t) _ v e).1 in
      small _ v job.2 (omega arith)
  modest (Request r) (Machine m) v e =
      let state = came_from (λ s. and_then (place_arc k r m s) (spare_of k m)) (open_state k m) v (where_true (is_node k (Request r)) _ v e).1 in
      let spare = came_from (place_arc k r m state.0) (spare_of k m) v state.2 in
      let ranges = state_ranges k is m state.0 state.1 in
      let all = few_places state.0 spare.0 r in
      small _ v (when_value _ _ v spare.2) (omega (arith, ranges.slots_within))
  modest (Machine m) Sink v e = let state = mapped_from _ (open_state k m) v e in free state.0.slots v state.2
  modest (Unscheduled j) Sink v e = free _ v (when_value (is_node k (Unscheduled j)) _ v e)
  modest _ _ v e = none e

modest_at : (net : Net) → IsBuilt net → (from to : Node) (arc : ℕ × ℕ) → arc_at net from to ≡ Some arc → IsModest arc
modest_at net built from to arc h =
    let k = built.0 in
    let there : arc_of k from to ≡ Some arc = sym ((is_network_of k).each_arc from to) ∙ ap (λ (n : Net). arc_at n from to) (sym built.2) ∙ h in
    modest k built.1 from to arc there

price_bound : (arc : ℕ × ℕ) (units : ℕ) → IsModest arc → arc.1 ≤ 1000000000 → units ≤ arc.0 → arc.1 * units ≤ 1000000000000
price_bound arc units h cost within = elim h [
  | inl nothing ↦ let none : arc.1 * units ≡ 0 = ap (λ c. c * units) nothing ∙ zero-mul units in omega arith
  | inr few ↦ let most : arc.1 * units ≤ 1000000000 * 1000 = let fit : units ≤ 1000 = omega arith in mul-le-mul cost fit in omega arith
]

abbrev price : Units → Arc → ℕ
price units a = a.1.1 * units a.0.0 a.0.1

bound : (f : Arc → ℕ) (most : ℕ) (arcs : List Arc) → ((a : Arc) → IsMember a arcs → f a ≤ most) → sum_by f arcs ≤ most * length arcs
bound f most [] each = omega arith
bound f most (a ∷ arcs) each =
    let rest = bound f most arcs (λ b m. each b (inr m)) in
    let first = each a (inl refl) in
    omega (arith, sum_by-cons f a arcs, mul-suc most (length arcs))

pub cost_bound : (net : Net) (units : Units) → CanBeNet net → IsBuilt net → IsFeasible net units → cost_of net units ≤ 1000000000000 * length net.arcs
cost_bound net units can built feasible =
    bound (price units) 1000000000000 net.arcs (λ a m.
    let arc = arc_member net can a m in
    price_bound a.1 (units a.0.0 a.0.1) (modest_at net built a.0.0 a.0.1 a.1 arc) (can.are_arcs a.0.0 a.0.1 a.1 arc).cost_within (feasible.within a.0.0 a.0.1 a.1 arc))
