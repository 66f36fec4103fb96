use Rattle.std.proofs.Common.{◌≡◌, ◌∷◌, rules, ◌∙◌}
use Rattle.std.specs.Prelude.{not, ◌&&◌}
use Rattle.fm_net.specs.declared.node.Node.{Node}
use Rattle.fm_net.specs.declared.edit.Edit.TheVariants.{DropNode, PutNode}
use Rattle.fm_net.specs.Net.{has_node}
use Rattle.fm_edit.specs.inner.EditorFacts.{node_by}
use Rattle.fm_edit.proofs.Each.{stepped_kept}
use Rattle.fm_edit.proofs.editor_state.EditorState.add_nodes.Goals as goal

pub loop-node-preserved : goal.loop-node-preserved
loop-node-preserved c =
    let net = c.args.network.now in
    let stands = node_by c.args.self.now in
    let x = c.in-Some.node.now in
    let next : c.loop-node.node-iterator ≡ x ∷ c.next.new.self = search rules in
    record {
      going = stepped_kept DropNode (λ (n : Node). has_node net n && not (stands n)) c.loop-node.going.items c.add_node.new.going.items c.loop-node.node-iterator c.next.new.self x next c.in_ok-add_node.ensures.going ∙ c.loop-node.invariant.going;
      coming = stepped_kept PutNode (λ (n : Node). stands n && not (has_node net n)) c.loop-node.coming.items c.add_node.new.coming.items c.loop-node.node-iterator c.next.new.self x next c.in_ok-add_node.ensures.coming ∙ c.loop-node.invariant.coming;
    }
