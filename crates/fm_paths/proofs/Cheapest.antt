-- Ways that are the cheapest at some prices are a least flow.
use Rattle.std.proofs.Common.{◌≡◌, ◌∙◌, ap, sym, subst, refl, inl, inr, ℕ, ◌+◌, ◌≤◌, ◌<◌, true, false, cond, List, [], ◌∷◌, Some, None, option_map, arith}
use Rattle.std.specs.Prelude.{pos, ◌-ℤ◌, flat_map}
use Rattle.std.proofs.lemmas.Int.{ints}
use Rattle.std.proofs.lemmas.List.Sums.{sum_by-cons}
use Rattle.fm_records.proofs.RangeLaws.{when_value}
use Rattle.fm_records.specs.Ranges.{CanBe}
use Rattle.fm_records.specs.Sets.{IsMember}
use Rattle.fm_records.specs.Options.{or_else}
use Rattle.fm_records.specs.Table.{Table}
use Rattle.fm_records.specs.Facts.{open_state, load_of}
use Rattle.fm_net.specs.declared.node.Node.{Node}
use Rattle.fm_net.specs.declared.node.Node.TheVariants.{Sink, Unscheduled, Request, Machine, Task}
use Rattle.fm_net.specs.Nodes.{number}
use Rattle.fm_net.specs.Net.{Net, CanBeNet, arc_at}
use Rattle.fm_net.specs.Network.{is_node, arc_of, net_of}
use Rattle.fm_net.proofs.NetworkLaws.{mapped_from, where_true, room_from, is_network_of}
use Rattle.fm_net.specs.NetworkEquality.{same_ends}
use Rattle.fm_certificate.specs.Flows.{Units, IsFeasible, IsLeast}
use Rattle.fm_certificate.proofs.Least.{shown_is_least}
use Rattle.fm_paths.specs.TaskPaths.{Way, ToJob, ByRequest, Straight, path_arcs_of, path_arcs, crossings, units_of, ways_of, Fit}
use Rattle.fm_paths.specs.Prices.{first_node, cost_beyond, arc_cost, cost_from, AreCheapest}
use Rattle.fm_paths.proofs.Crossed.{ends_Decides}
use Rattle.fm_paths.proofs.Stands.{from_flat, from_rows}
use Rattle.fm_paths.proofs.Feasible.{feasible, counted_room, counted_slots}

no_some : {A P : Type 0} {a : A} → None ≡ Some a → P
no_some e = absurd (let no : ⊥ = cc in no)

-- costs to the sink for potentials
pub least_by_costs : (net : Net) (f : Units) (costs : Node → ℕ) → CanBeNet net → IsFeasible net f →
    ((from to : Node) (arc : ℕ × ℕ) → arc_at net from to ≡ Some arc → f from to < arc.0 → costs from ≤ arc.1 + costs to) →
    ((from to : Node) (arc : ℕ × ℕ) → arc_at net from to ≡ Some arc → 0 < f from to → arc.1 + costs to ≤ costs from) → IsLeast
    net f
least_by_costs net f costs can feasible gain waste =
    shown_is_least net f (λ n. pos 0 -ℤ pos (costs n)) can feasible
    (λ from to arc at below. let h = gain from to arc at below in omega (arith, ints))
    (λ from to arc at above. let h = waste from to arc at above in omega (arith, ints))

-- what is crossed is one of the steps
pub crossed_member : (e : Node × Node) (ss : List (Node × Node)) → 0 < crossings ss e → IsMember e ss
crossed_member e [] some = absurd (omega arith)
crossed_member e (s ∷ ss) some =
    let rest = crossed_member e ss in
    let parts = sum_by-cons (λ (x : Node × Node). cond (same_ends x e) 1 0) s ss in
    elim (same_ends s e) as (λ b. same_ends s e ≡ b → cond b 1 0 + crossings ss e ≡ crossings (s ∷ ss) e → IsMember e (s ∷ ss)) [
      | true ↦ λ is _. inl ((ends_Decides s e).0 is)
      | false ↦ λ _ p. inr (rest (omega arith))
    ] refl (sym parts)

-- from a task a way goes to its first node
pub task_step : (t u : ℕ) (to : Node) (w : Way) → IsMember (Task t, to) (path_arcs_of u w) → (u ≡ t) × (first_node w ≡ to)
task_step t u to (ToJob j) m = elim m [
  | inl is ↦ (ap (λ (e : Node × Node). number e.0) is, ap (λ (e : Node × Node). e.1) is)
  | inr (inl is) ↦ absurd (let no : Unscheduled j ≡ Task t = ap (λ (e : Node × Node). e.0) is in let bad : ⊥ = cc in bad)
  | inr (inr none) ↦ absurd none
]
task_step t u to (ByRequest r q) m = elim m [
  | inl is ↦ (ap (λ (e : Node × Node). number e.0) is, ap (λ (e : Node × Node). e.1) is)
  | inr (inl is) ↦ absurd (let no : Request r ≡ Task t = ap (λ (e : Node × Node). e.0) is in let bad : ⊥ = cc in bad)
  | inr (inr (inl is)) ↦ absurd (let no : Machine q ≡ Task t = ap (λ (e : Node × Node). e.0) is in let bad : ⊥ = cc in bad)
  | inr (inr (inr none)) ↦ absurd none
]
task_step t u to (Straight q) m = elim m [
  | inl is ↦ (ap (λ (e : Node × Node). number e.0) is, ap (λ (e : Node × Node). e.1) is)
  | inr (inl is) ↦ absurd (let no : Machine q ≡ Task t = ap (λ (e : Node × Node). e.0) is in let bad : ⊥ = cc in bad)
  | inr (inr none) ↦ absurd none
]

module _ (k : Table) (way : ℕ → Way) where
  goes_first : (t : ℕ) (to : Node) → 0 < units_of (ways_of k way) (Task t) to → first_node (way t) ≡ to
  goes_first t to some =
      let w = from_flat path_arcs (Task t, to) (ways_of k way) (crossed_member (Task t, to) (flat_map path_arcs (ways_of k way)) some) in
      let u = from_rows k way w.0 k.tasks w.1 in
      let here : IsMember (Task t, to) (path_arcs_of u.0 (way u.0)) = subst (λ (x : ℕ × Way). IsMember (Task t, to) (path_arcs x)) (sym u.2) w.2 in
      let both = task_step t u.0 to (way u.0) here in
      subst (λ x. first_node (way x) ≡ to) both.0 both.1

  module _ (price offer : ℕ → ℕ) where
    abbrev costs : Node → ℕ
    costs = cost_from k price offer way

    costs_there : (t : ℕ) (to : Node) (v : ℕ × ℕ) → arc_of k (Task t) to ≡ Some v → costs to ≡ cost_beyond k price offer to
    costs_there t Sink v arc = refl
    costs_there t (Unscheduled j) v arc = refl
    costs_there t (Request r) v arc = refl
    costs_there t (Machine m) v arc = refl
    costs_there t (Task u) v arc = no_some arc

    pub own_cost : (t : ℕ) (to : Node) (v : ℕ × ℕ) → arc_of k (Task t) to ≡ Some v → first_node (way t) ≡ to → costs (Task t) ≡ v.1 + cost_beyond k price offer to
    own_cost t to v arc is =
        ap (λ n. arc_cost k (Task t) n + cost_beyond k price offer n) is
        ∙ ap (λ o. or_else 0 (option_map (λ (w : ℕ × ℕ). w.1) o) + cost_beyond k price offer to) arc

    module _ (can_be : CanBe k) (can : CanBeNet (net_of k)) (fit : Fit k way) (cheap : AreCheapest k way price offer) where
      abbrev f : Units
      f = units_of (ways_of k way)

      gain : (from to : Node) (v : ℕ × ℕ) → arc_of k from to ≡ Some v → f from to < v.0 → costs from ≤ v.1 + costs to
      gain (Task t) to v arc below = omega (arith, cheap.none_cheaper t to v arc, costs_there t to v arc)
      gain (Request r) (Machine m) v arc below =
          let stands = where_true (is_node k (Request r)) _ v arc in
          let room = room_from k r m v stands.1 in
          let cost : r + load_of k m ≡ v.1 = ap (λ (a : ℕ × ℕ). a.1) room.value in
          omega (arith, cheap.more r m v stands.0 stands.1 (omega (arith, counted_room k way can_be can fit r m)), cheap.load m room.state room.opened)
      gain (Machine m) Sink v arc below =
          let state = mapped_from _ (open_state k m) v arc in
          let is : state.0.slots ≡ v.0 = ap (λ (w : ℕ × ℕ). w.0) state.2 in
          let least = cheap.free m state.0 state.1 (omega (arith, counted_slots k way can_be can fit m)) in
          omega arith
      gain (Unscheduled j) Sink v arc below = omega arith
      gain _ _ v arc below = no_some arc

      waste : (from to : Node) (v : ℕ × ℕ) → arc_of k from to ≡ Some v → 0 < f from to → v.1 + costs to ≤ costs from
      waste (Task t) to v arc above = omega (arith, own_cost t to v arc (goes_first t to above), costs_there t to v arc)
      waste (Request r) (Machine m) v arc above =
          let stands = where_true (is_node k (Request r)) _ v arc in
          let room = room_from k r m v stands.1 in
          let cost : r + load_of k m ≡ v.1 = ap (λ (a : ℕ × ℕ). a.1) room.value in
          omega (arith, cheap.less r m v stands.0 stands.1 (omega (arith, counted_room k way can_be can fit r m)), cheap.load m room.state room.opened)
      waste (Machine m) Sink v arc above =
          let state = mapped_from _ (open_state k m) v arc in
          let is : 0 ≡ v.1 = ap (λ (w : ℕ × ℕ). w.1) state.2 in
          omega arith
      waste (Unscheduled j) Sink v arc above =
          let is : 0 ≡ v.1 = ap (λ (w : ℕ × ℕ). w.1) (when_value (is_node k (Unscheduled j)) _ v arc) in
          omega arith
      waste _ _ v arc above = no_some arc

      pub cheapest_is_least : IsLeast (net_of k) f
      cheapest_is_least =
          least_by_costs (net_of k) f costs can (feasible k way can_be can fit)
          (λ from to v at. gain from to v (sym ((is_network_of k).each_arc from to) ∙ at))
          (λ from to v at. waste from to v (sym ((is_network_of k).each_arc from to) ∙ at))
