use Rattle.std.proofs.Common.{◌≡◌, ◌++◌, rules, ◌∙◌, append_assoc}
use Rattle.fm_edit.specs.inner.EditorFacts.{node_by, arc_by}
use Rattle.fm_edit.specs.inner.Diff.{arcs_that_go, nodes_that_go, nodes_that_come, arcs_that_come}
use Rattle.fm_edit.proofs.editor_state.EditorState.list.Goals as goal

pub returns : goal.returns
returns c =
    let net = c.args.network.now in
    let node = node_by c.args.self.now in
    let arc = arc_by c.args.self.now in
    let ns = c.args.touched.now.nodes.keys in
    let ps = c.args.touched.now.pairs.keys in
    let go = arcs_that_go net node arc ps in
    let leave = nodes_that_go net node arc ns in
    let join = nodes_that_come net node arc ns in
    let put = arcs_that_come net node arc ps in
    let first : c.add_arcs.new.going.items ≡ go = c.in_ok-add_arcs.ensures.going ∙ (λ i. c.new-edits.ensures.items i ++ go) in
    let last : c.add_arcs.new.coming.items ≡ put = c.in_ok-add_arcs.ensures.coming ∙ (λ i. c.new-coming.ensures.items i ++ put) in
    let second : c.add_nodes.new.going.items ≡ go ++ leave = c.in_ok-add_nodes.ensures.going ∙ (λ i. first i ++ leave) in
    let entering : c.add_nodes.new.coming.items ≡ join = c.in_ok-add_nodes.ensures.coming ∙ (λ i. c.new-entering.ensures.items i ++ join) in
    let nodes : c.append.new.self.items ≡ c.add_nodes.new.going.items ++ c.add_nodes.new.coming.items = search rules in
    let third : c.append.new.self.items ≡ (go ++ leave) ++ join = nodes ∙ (λ i. second i ++ entering i) in
    let joined : c.append-2.new.self.items ≡ c.append.new.self.items ++ c.add_arcs.new.coming.items = search rules in
    joined ∙ (λ i. third i ++ last i) ∙ append_assoc (go ++ leave) join put ∙ append_assoc go leave (join ++ put)
