-- All tasks unscheduled, by numbers: the units of the arcs by name, and so a flow.
use Rattle.std.proofs.Common.{◌≡◌, ◌∙◌, ap, sym, subst, refl, inl, inr, ℕ, zero, suc, ◌+◌, ◌*◌, ◌-◌, ◌^◌, ◌<◌, ◌≤◌, Bool, true, false, cond, List, [], ◌∷◌, Option, Some, None, IsTrue, map, min, length, get_or, nat_eq, arith}
use Rattle.std.specs.Prelude.{slice_get, slice_index}
use Rattle.std.specs.List.{sum_by}
use Rattle.std.proofs.lemmas.List.{length-map}
use Rattle.std.proofs.lemmas.List.Sums.{sum_by-cons}
use Rattle.std.proofs.lemmas.Option.{slice_get-get_or, slice_get_within}
use Rattle.fm_records.specs.Sets.{IsMember}
use Rattle.fm_records.specs.Rising.{Rises}
use Rattle.fm_net.specs.declared.node.Node.{Node}
use Rattle.fm_net.specs.declared.node.Node.TheVariants as node
use Rattle.fm_net.specs.Nodes.{node_cmp}
use Rattle.fm_net.specs.laws.NodeOrder.{node_exact, node_total}
use Rattle.fm_net.proofs.ListLaws.{has_member}
use Rattle.fm_net.specs.Net.{Net, CanBeNet, has_node}
use Rattle.fm_net.specs.Network.{IsNetworkOf, net_of}
use Rattle.fm_net.proofs.NetworkLaws.{is_network_of}
use Rattle.fm_net.specs.NetworkEquality.{same_node}
use Rattle.fm_records.specs.Table.{Table}
use Rattle.fm_certificate.specs.Totals.{source, target}
use Rattle.fm_certificate.specs.PolicyNetwork.{IsBuilt}
use Rattle.fm_cycles.specs.declared.indexed_arcs.IndexedArc.{IndexedArc}
use Rattle.fm_cycles.specs.Residual.{AreArcs}
use Rattle.fm_cycles.specs.Units.{units_with_end, inflow_at, outflow_at, AreWithin}
use Rattle.fm_indexed.specs.declared.node_ranges.NodeRanges.{NodeRanges}
use Rattle.fm_indexed.specs.declared.node_ranges.NodeKind.{NodeKind}
use Rattle.fm_indexed.specs.declared.node_ranges.NodeKind.TheVariants as kinds
use Rattle.fm_indexed.specs.NodeRanges.{kind_at}
use Rattle.fm_indexed.specs.Numbered.{NetArc, IsArcOf, AreArcsOf, IsNumbered}
use Rattle.fm_indexed.specs.Feasible.{IsConserved, IsFlowOf}
use Rattle.fm_indexed.specs.Unscheduled.{unscheduled_by, unit_on_job_arcs, all_unscheduled, AreFlows}
use Rattle.fm_indexed.proofs.Placed.{one_place, member_at}
use Rattle.fm_indexed.proofs.KindsAt.{kind_is, kind_there}
use Rattle.fm_indexed.proofs.Formed.{as_many}
use Rattle.fm_indexed.proofs.Waiting.{named_by, waits, units_by, units_of, task_sends, job_keeps, request_keeps, machine_keeps, within}

-- one number for each arc, by its name
same_map : (nodes : List Node) (arcs : List NetArc) (numbers : List IndexedArc) (f : IndexedArc → ℕ) (g : NetArc → ℕ) → AreArcsOf nodes arcs numbers → ((b : NetArc) (a : IndexedArc) → IsArcOf nodes b a → f a ≡ g b) → map f numbers ≡ map g arcs
same_map nodes [] [] f g are each = refl
same_map nodes [] (a ∷ numbers) f g are each = absurd are
same_map nodes (b ∷ arcs) [] f g are each = absurd are
same_map nodes (b ∷ arcs) (a ∷ numbers) f g are each =
    let first = each b a are.0 in
    let rest = same_map nodes arcs numbers f g are.1 each in
    λ i. first i ∷ rest i

-- what the arcs have at a node, by number and by name
module _ (nodes : List Node) (rises : Rises node_cmp nodes) (end : Node × Node → Node) (place : IndexedArc → ℕ) (there : (b : NetArc) (a : IndexedArc) → IsArcOf nodes b a → slice_get nodes (place a) ≡ Some (end b.0)) (v : ℕ) (n : Node) (at : slice_get nodes v ≡ Some n) (units : NetArc → ℕ) where
  same_sum : (arcs : List NetArc) (numbers : List IndexedArc) → AreArcsOf nodes arcs numbers → units_with_end place numbers (map units arcs) v ≡ sum_by (λ (b : NetArc). cond (same_node (end b.0) n) (units b) 0) arcs
  same_sum [] [] are = refl
  same_sum [] (a ∷ numbers) are = absurd are
  same_sum (b ∷ arcs) [] are = absurd are
  same_sum (b ∷ arcs) (a ∷ numbers) are =
      let rest = same_sum arcs numbers are.1 in
      let one : cond (same_node (end b.0) n) (units b) 0 ≡ cond (nat_eq (place a) v) (units b) 0 = ap (λ t. cond t (units b) 0) (one_place nodes (place a) v (end b.0) n rises (there b a are.0) at) in
      omega (arith, sum_by-cons (λ (c : NetArc). cond (same_node (end c.0) n) (units c) 0) b arcs)

within_all : (nodes : List Node) (arcs : List NetArc) (numbers : List IndexedArc) (units : NetArc → ℕ) → AreArcsOf nodes arcs numbers → ((b : NetArc) → IsMember b arcs → units b ≤ b.1.0) → AreWithin numbers (map units arcs)
within_all nodes [] [] units are each = tt
within_all nodes [] (a ∷ numbers) units are each = absurd are
within_all nodes (b ∷ arcs) [] units are each = absurd are
within_all nodes (b ∷ arcs) (a ∷ numbers) units are each = (
  (let most = each b (inl refl) in let e = are.0.capacity in omega arith),
  within_all nodes arcs numbers units are.1 (λ c m. each c (inr m)),
)

kind_named : (places : NodeRanges) (v : ℕ) (n : Node) (entered : ℕ) → unscheduled_by (kind_there places v n) entered ≡ named_by n entered
kind_named places v (node.Sink) entered = refl
kind_named places v (node.Unscheduled j) entered = refl
kind_named places v (node.Request r) entered = refl
kind_named places v (node.Machine m) entered = refl
kind_named places v (node.Task t) entered = refl

module _ (k : Table) (net : Net) (can : CanBeNet net) (of : IsNetworkOf k net) (places : NodeRanges) (numbers : List IndexedArc) (is : IsNumbered net places numbers) where
  named : (b : NetArc) (a : IndexedArc) (entered : ℕ) → IsArcOf net.nodes b a → unscheduled_by (kind_at places a.to) entered ≡ named_by b.0.1 entered
  named b a entered arc = ap (λ kind. unscheduled_by kind entered) (kind_is net.nodes places can.nodes_rise is.at_places a.to b.0.1 arc.to) ∙ kind_named places a.to b.0.1 entered

  waiting_is : unit_on_job_arcs places numbers ≡ map waits net.arcs
  waiting_is = same_map net.nodes net.arcs numbers (λ a. unscheduled_by (kind_at places a.to) 0) waits is.of_arcs (λ b a arc. named b a 0 arc)

  enters : (units : NetArc → ℕ) (v : ℕ) (n : Node) → slice_get net.nodes v ≡ Some n → inflow_at numbers (map units net.arcs) v ≡ units_by k net can of target units n
  enters units v n at = same_sum net.nodes can.nodes_rise target (λ a. a.to) (λ b a arc. arc.to) v n at units net.arcs numbers is.of_arcs

  leaves : (units : NetArc → ℕ) (v : ℕ) (n : Node) → slice_get net.nodes v ≡ Some n → outflow_at numbers (map units net.arcs) v ≡ units_by k net can of source units n
  leaves units v n at = same_sum net.nodes can.nodes_rise source (λ a. a.from) (λ b a arc. arc.from) v n at units net.arcs numbers is.of_arcs

  abbrev units : NetArc → ℕ
  units = units_of k net can of

  all_is : all_unscheduled places numbers ≡ map units net.arcs
  all_is =
      same_map net.nodes net.arcs numbers (λ a. unscheduled_by (kind_at places a.to) (inflow_at numbers (unit_on_job_arcs places numbers) a.from)) units is.of_arcs (λ b a arc.
      named b a (inflow_at numbers (unit_on_job_arcs places numbers) a.from) arc
      ∙ ap (named_by b.0.1) (ap (λ (us : List ℕ). inflow_at numbers us a.from) waiting_is ∙ enters waits a.from b.0.0 arc.from))

  sends_there : (v : ℕ) (n : Node) → slice_get net.nodes v ≡ Some n → IsTrue (has_node net n) → IsConserved (kind_there places v n) (inflow_at numbers (map units net.arcs) v) (outflow_at numbers (map units net.arcs) v)
  sends_there v (node.Sink) at h = tt
  sends_there v (node.Unscheduled j) at h = enters units v (node.Unscheduled j) at ∙ job_keeps k net can of j h ∙ sym (leaves units v (node.Unscheduled j) at)
  sends_there v (node.Request r) at h = enters units v (node.Request r) at ∙ request_keeps k net can of r ∙ sym (leaves units v (node.Request r) at)
  sends_there v (node.Machine m) at h = enters units v (node.Machine m) at ∙ machine_keeps k net can of m ∙ sym (leaves units v (node.Machine m) at)
  sends_there v (node.Task t) at h = leaves units v (node.Task t) at ∙ task_sends k net can of t h

  flow_named : IsFlowOf places numbers (map units net.arcs)
  flow_named = record {
    sized = length-map net.arcs units ∙ sym (as_many net.nodes net.arcs numbers is.of_arcs);
    within = within_all net.nodes net.arcs numbers units is.of_arcs (within k net can of);
    sends = λ v less.
        let n = get_or net.nodes v (node.Sink) in
        let end = is.at_places.end in
        let at : slice_get net.nodes v ≡ Some (get_or net.nodes v (node.Sink)) = slice_get-get_or net.nodes v (node.Sink) (omega arith) in
        let there = has_member node_cmp node_total node_exact n net.nodes (member_at net.nodes v n at) in
        subst (λ kind. IsConserved kind (inflow_at numbers (map units net.arcs) v) (outflow_at numbers (map units net.arcs) v)) (sym (kind_is net.nodes places can.nodes_rise is.at_places v n at)) (sends_there v n at there);
  }

  pub flow : IsFlowOf places numbers (all_unscheduled places numbers)
  flow = subst (λ (us : List ℕ). IsFlowOf places numbers us) (sym all_is) flow_named

pub are_flows : AreFlows
are_flows net places arcs can built is =
    let of : IsNetworkOf built.0 net = subst (λ (m : Net). IsNetworkOf built.0 m) (sym built.2) (is_network_of built.0) in
    flow built.0 net can of places arcs is

-- What the code makes of the sums.

map_same : (f g : IndexedArc → ℕ) (arcs : List IndexedArc) → ((i : ℕ) (a : IndexedArc) → slice_get arcs i ≡ Some a → f a ≡ g a) → map f arcs ≡ map g arcs
map_same f g [] each = refl
map_same f g (a ∷ arcs) each =
    let first = each 0 a refl in
    let rest = map_same f g arcs (λ i b at. each (suc i) b at) in
    λ i. first i ∷ rest i

part_most : (m v u : ℕ) → cond (nat_eq m v) u 0 ≤ u
part_most m v u = elim (nat_eq m v) as (λ b. cond b u 0 ≤ u) [ true ↦ omega arith | false ↦ omega arith ]

few_units : (end : IndexedArc → ℕ) (f : IndexedArc → ℕ) (v : ℕ) (arcs : List IndexedArc) → ((a : IndexedArc) → f a ≤ 1) → units_with_end end arcs (map f arcs) v ≤ length arcs
few_units end f v [] one = omega arith
few_units end f v (a ∷ arcs) one =
    let rest = few_units end f v arcs one in
    let first = one a in
    let most = part_most (end a) v (f a) in
    omega arith

one_waits : (kind : NodeKind) → unscheduled_by kind 0 ≤ 1
one_waits kind = elim kind as (λ q. unscheduled_by q 0 ≤ 1) [
  | kinds.Sink ↦ omega arith
  | kinds.Unscheduled i ↦ omega arith
  | kinds.Request i ↦ omega arith
  | kinds.Machine i ↦ omega arith
  | kinds.Task i ↦ omega arith
]

pub drained : (places : NodeRanges) (arcs : List IndexedArc) (nodes : ℕ) (entered : List ℕ) → AreArcs arcs nodes → length arcs < 2 ^ 63 →
    ((v : ℕ) → v < nodes → slice_index entered v ≡ inflow_at arcs (unit_on_job_arcs places arcs) v) → map
    (λ (a : IndexedArc). unscheduled_by (kind_at places a.to) (min (slice_index entered a.from) (2 ^ 64 - 1))) arcs ≡ all_unscheduled
    places arcs
drained places arcs nodes entered known few sums =
    map_same _ _ arcs (λ i a at.
    let is = sums a.from (known i a at).0 in
    let most = few_units (λ (b : IndexedArc). b.to) (λ (b : IndexedArc). unscheduled_by (kind_at places b.to) 0) a.from arcs (λ b. one_waits (kind_at places b.to)) in
    let fits : min (slice_index entered a.from) (2 ^ 64 - 1) ≡ inflow_at arcs (unit_on_job_arcs places arcs) a.from = omega arith in
    ap (unscheduled_by (kind_at places a.to)) fits)
