-- The sums of a network's nodes are the totals of its units.
use Rattle.std.proofs.Common.{◌≡◌, ◌∙◌, sym, refl, ℕ, ◌<◌, ◌^◌, true, false, List, Some, arith}
use Rattle.std.specs.Prelude.{slice_get, slice_index}
use Rattle.std.proofs.lemmas.Option.{slice_get_within}
use Rattle.fm_net.specs.declared.node.Node.{Node}
use Rattle.fm_net.specs.Nodes.{node_cmp}
use Rattle.fm_net.specs.laws.NodeOrder.{node_exact, node_total}
use Rattle.fm_net.proofs.ListLaws.{has_member, member_has}
use Rattle.fm_net.specs.Net.{Net, CanBeNet, has_node}
use Rattle.fm_certificate.specs.Totals.{target, units_at, total_in, IsTotalled}
use Rattle.fm_cycles.specs.declared.indexed_arcs.IndexedArc.{IndexedArc}
use Rattle.fm_cycles.specs.Units.{inflow_at}
use Rattle.fm_indexed.specs.declared.node_ranges.NodeRanges.{NodeRanges}
use Rattle.fm_indexed.specs.Numbered.{IsNumbered}
use Rattle.fm_indexed.specs.inner.Named.{named_units, entered_by}
use Rattle.fm_indexed.proofs.Placed.{place_of_member, member_at}
use Rattle.fm_indexed.proofs.Naming.{named_rise, named_fit, enters_none}
use Rattle.fm_indexed.proofs.Entered.{no_total, total_there, entered_rise}
use Rattle.fm_indexed.proofs.Certify.{same_sum}

module _ (net : Net) (can : CanBeNet net) (places : NodeRanges) (numbers : List IndexedArc) (is : IsNumbered net places numbers) (units sums : List ℕ) (summed : (v : ℕ) → v < places.end → slice_index sums v ≡ inflow_at numbers units v) where
  abbrev Enters : Node → Type 0
  Enters n = total_in (entered_by net.nodes sums) n ≡ units_at target (named_units net.arcs units) n

  enters_there : (n : Node) (v : ℕ) → slice_get net.nodes v ≡ Some n → Enters n
  enters_there n v at =
      let end = is.at_places.end in
      let less = slice_get_within net.nodes v n at in
      total_there net.nodes sums v n can.nodes_rise at ∙ summed v (omega arith)
      ∙ sym (same_sum net.nodes can.nodes_rise target (λ a. a.to) (λ b a of. of.to) v n at net.arcs numbers units is.of_arcs)

  enters_nowhere : (n : Node) → ((v : ℕ) → slice_get net.nodes v ≡ Some n → ⊥) → Enters n
  enters_nowhere n none = no_total n net.nodes sums none ∙ sym (enters_none net.nodes n none net.arcs numbers units is.of_arcs)

  enters : (n : Node) → Enters n
  enters n = elim (has_node net n) as (λ t. has_node net n ≡ t → Enters n) [
    | true ↦ λ has. let at = place_of_member n net.nodes (member_has node_cmp node_total node_exact n net.nodes has) in enters_there n at.0 at.1
    | false ↦ λ lacks. enters_nowhere n (λ v at. let has : has_node net n ≡ true = has_member node_cmp node_total node_exact n net.nodes (member_at net.nodes v n at) in absurd (cc))
  ] refl

  pub totalled : ((i : ℕ) → slice_index units i < 2 ^ 64) → IsTotalled (named_units net.arcs units) (entered_by net.nodes sums)
  totalled fits = record {
    rises = named_rise net.arcs units can.arcs_rise;
    fits = named_fit net.arcs units fits;
    in_order = entered_rise net.nodes sums can.nodes_rise;
    enters = enters;
  }
