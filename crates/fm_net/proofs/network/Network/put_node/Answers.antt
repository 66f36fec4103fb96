use Rattle.std.proofs.Common.{◌≡◌, ◌∙◌, ap, refl, sym, subst, not, is_some, List}
use Rattle.std.specs.Map.{keys_of}
use Rattle.fm_records.specs.Sets.{insert_once}
use Rattle.fm_net.specs.declared.node.Node.{Node}
use Rattle.fm_net.specs.Nodes.{node_cmp}
use Rattle.fm_net.specs.Net.{Net, CanBeNet, has_node, with_node}
use Rattle.fm_net.proofs.Kept.{after_put_node, put_has}
use Rattle.fm_net.proofs.Said.{same_lists, keys_put, found_key, has_with, rises_with, not_not}
use Rattle.fm_net.proofs.network.Network.put_node.Goals as goal

pub invariant_of-self-2 : goal.invariant_of-self-2
invariant_of-self-2 c =
    let old : Net = record { nodes = keys_of c.self.inside.nodes; arcs = c.self.inside.arcs } in
    let keys : keys_of c.put.new.self ≡ insert_once node_cmp c.args.node (keys_of c.self.inside.nodes) = ap keys_of c.in_ok-stood.ensures.ok ∙ keys_put c.args.node _ c.self.inside.nodes in
    subst (λ (ns : List Node). CanBeNet (record { nodes = ns; arcs = c.self.inside.arcs })) (sym keys)
    (after_put_node old (with_node c.args.node old) c.self.invariant c.args.node (rises_with c.args.node old c.self.invariant.nodes_rise) refl c.known.ensures (has_with c.args.node old))

pub returns-clause-ok : goal.returns-clause-ok
returns-clause-ok c = rw (← c.self.view_is) (same_lists _ _ (ap keys_of c.in_ok-stood.ensures.ok ∙ keys_put c.args.node _ c.self.inside.nodes) refl)

pub returns-clause-is_new : goal.returns-clause-is_new
returns-clause-is_new c =
    rw (← c.self.view_is) (not_not c.is_none.result ∙ ap not (sym c.is_none.ensures ∙ ap is_some c.in_ok-stood.ensures.stood ∙ found_key c.args.node c.self.inside.nodes))

pub returns-clause-has : goal.returns-clause-has
returns-clause-has c =
    let old : Net = record { nodes = keys_of c.self.inside.nodes; arcs = c.self.inside.arcs } in
    let new : Net = record { nodes = keys_of c.put.new.self; arcs = c.self.inside.arcs } in
    let keys : keys_of c.put.new.self ≡ insert_once node_cmp c.args.node (keys_of c.self.inside.nodes) = ap keys_of c.in_ok-stood.ensures.ok ∙ keys_put c.args.node _ c.self.inside.nodes in
    rw (← c.self.view_is) (put_has old new c.args.node (λ q. ap (λ (ns : List Node). has_node (record { nodes = ns; arcs = c.self.inside.arcs }) q) keys ∙ has_with c.args.node old q))
