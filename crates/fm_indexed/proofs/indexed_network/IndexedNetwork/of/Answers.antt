use Rattle.std.proofs.Common.{◌≡◌, ◌∙◌, ◌<◌, ◌^◌, List, subst, length, rules}
use Rattle.fm_net.specs.declared.node.Node.{Node}
use Rattle.fm_indexed.specs.NodeRanges.{AreRangesOf}
use Rattle.fm_indexed.specs.Numbered.{AreArcsOf, IsNumbered}
use Rattle.fm_indexed.proofs.Formed.{formed}
use Rattle.fm_indexed.proofs.indexed_network.IndexedNetwork.of.Goals as goal

pub invariant_of-result : goal.invariant_of-result
invariant_of-result c =
    let nodes : c.in_ok-nodes.nodes.items ≡ c.args.network.now.nodes = search rules in
    let first : c.deref.result.now ≡ c.in_ok-nodes.nodes.items = search rules in
    let third : c.deref-3.result.now ≡ c.in_ok-nodes.nodes.items = search rules in
    let small : length c.in_ok-nodes.nodes.items < 2 ^ 63 = search rules in
    let places : AreRangesOf c.deref.result.now c.places_of-places.result = c.places_of-places.ensures in
    let numbered : IsNumbered c.args.network.now c.places_of-places.result c.in_ok-arcs.arcs.items = record {
      at_places = subst (λ (ns : List Node). AreRangesOf ns c.places_of-places.result) (first ∙ nodes) places;
      of_arcs = subst (λ (ns : List Node). AreArcsOf ns c.args.network.now.arcs c.in_ok-arcs.arcs.items) (third ∙ nodes) c.in_ok-arcs.ensures;
    } in
    record { formed = formed c.args.network.now c.known.ensures c.places_of-places.result c.in_ok-arcs.arcs.items numbered (subst (λ (ns : List Node). length ns < 2 ^ 63) nodes small) }
