use Rattle.std.proofs.Common.{◌∙◌, ◌+◌, add-one, arith}
use Rattle.fm_dimacs.specs.Text.{node_line}
use Rattle.fm_dimacs.proofs.Sent.{appends_more, step_at, stopped_later}
use Rattle.fm_dimacs.proofs.dump.put_nodes.Goals as goal

pub returns-in_err-put_node : goal.returns-in_err-put_node
returns-in_err-put_node g c =
    let i = c.loop-i.i in
    let s = step_at node_line 1 c.args.nodes.now i (i + 1) c.index-nodes-i.result (omega arith) c.loop-i-test.true c.index-nodes-i.is in
    stopped_later _ _ _ _ _ _ _ _ _ _ _ s.rest c.from_residual.ensures.1 s.whole c.loop-i.invariant.appended c.loop-i.invariant.fails_not c.in_err-put_node.ensures

pub loop-i-preserved : goal.loop-i-preserved
loop-i-preserved g c =
    let i = c.loop-i.i in
    let s = step_at node_line 1 c.args.nodes.now i (i + 1) c.index-nodes-i.result (omega arith) c.loop-i-test.true c.index-nodes-i.is in
    record {
      appended = rw (add-one, s.more) (appends_more _ _ _ _ _ c.loop-i.invariant.appended c.in_ok-put_node.ensures.0);
      fails_not = c.in_ok-put_node.ensures.1 ∙ c.loop-i.invariant.fails_not;
    }
