-- Each node comes after all others, so that it is put at the end.
use Rattle.std.proofs.Common.{ap, ◌∙◌}
use Rattle.fm_net.specs.Net.{with_node}
use Rattle.fm_dimacs.proofs.Building.{node_put}
use Rattle.fm_dimacs.proofs.read.put_nodes.Goals as goal

pub loop-node-preserved : goal.loop-node-preserved
loop-node-preserved c =
    let before = c.args.network.now in
    let nodes = c.args.nodes.now in
    let n = c.node-item.result in
    c.in_ok-put_node.ensures.ok
    ∙ ap (λ net. with_node n net) c.loop-node.invariant
    ∙ ap (λ all. record { nodes = all; arcs = before.arcs }) (node_put before.nodes nodes c.loop-node.node-index n c.requires.rise c.loop-node-test.true c.node-item.is)
