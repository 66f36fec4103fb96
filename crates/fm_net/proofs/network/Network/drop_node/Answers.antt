use Rattle.std.proofs.Common.{◌≡◌, ◌∙◌, ap, refl, sym, subst, is_some, List}
use Rattle.std.specs.Map.{keys_of}
use Rattle.fm_net.specs.declared.node.Node.{Node}
use Rattle.fm_net.specs.Net.{Net, CanBeNet, IsTouched, has_node, without_node, remove_node}
use Rattle.fm_net.proofs.Kept.{after_drop_node, drop_has}
use Rattle.fm_net.proofs.Said.{same_lists, keys_removed, found_key, has_without, rises_without}
use Rattle.fm_net.proofs.network.Network.drop_node.Goals as goal

pub invariant_of-self : goal.invariant_of-self
invariant_of-self c =
    let node = c.args.node.now in
    let old : Net = record { nodes = keys_of c.self.inside.nodes; arcs = c.self.inside.arcs } in
    let keys : keys_of c.remove.new.self ≡ remove_node node (keys_of c.self.inside.nodes) = ap keys_of c.remove.ensures.without ∙ keys_removed node c.self.inside.nodes in
    subst (λ (ns : List Node). CanBeNet (record { nodes = ns; arcs = c.self.inside.arcs })) (sym keys)
    (after_drop_node old (without_node node old) c.self.invariant node (rises_without node old c.self.invariant.nodes_rise) refl
    c.requires.not_sink (subst (λ (net : Net). ¬ (IsTouched net node)) (sym c.self.view_is) c.requires.not_touched) (has_without node old c.self.invariant.nodes_rise))

pub returns-clause-without : goal.returns-clause-without
returns-clause-without c = rw (← c.self.view_is) (same_lists _ _ (ap keys_of c.remove.ensures.without ∙ keys_removed c.args.node.now c.self.inside.nodes) refl)

pub returns-clause-was_there : goal.returns-clause-was_there
returns-clause-was_there c = rw (← c.self.view_is) (c.is_some.ensures ∙ ap is_some c.remove.ensures.stood ∙ found_key c.args.node.now c.self.inside.nodes)

pub returns-clause-has : goal.returns-clause-has
returns-clause-has c =
    let node = c.args.node.now in
    let old : Net = record { nodes = keys_of c.self.inside.nodes; arcs = c.self.inside.arcs } in
    let new : Net = record { nodes = keys_of c.remove.new.self; arcs = c.self.inside.arcs } in
    let keys : keys_of c.remove.new.self ≡ remove_node node (keys_of c.self.inside.nodes) = ap keys_of c.remove.ensures.without ∙ keys_removed node c.self.inside.nodes in
    rw (← c.self.view_is) (drop_has old new node (λ q. ap (λ (ns : List Node). has_node (record { nodes = ns; arcs = c.self.inside.arcs }) q) keys ∙ has_without node old c.self.invariant.nodes_rise q))
