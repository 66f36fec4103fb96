-- Each comment leads on from those before it.
use Rattle.std.proofs.Common.{◌≡◌, ◌+◌, List, ◌++◌, [], length, arith, ap, subst}
use Rattle.fm_net.specs.declared.node.Node.{Node}
use Rattle.fm_dimacs.specs.Text.{node_line}
use Rattle.fm_dimacs.specs.Syntax.{Comments, IsNextNode, IsFault}
use Rattle.fm_dimacs.proofs.Verdict.{takes_bytes}
use Rattle.fm_dimacs.proofs.Reader.{fault_behind, node_more, some_holds}
use Rattle.fm_dimacs.proofs.read.read_nodes.Goals as goal

pub next_node-requires : goal.next_node-requires
next_node-requires c =
    let room = takes_bytes _ (Comments []) _ c.args.text.now c.loop-refusal.rest.now tt c.loop-refusal.invariant in
    omega (arith, ap length c.deref.ensures.value)

pub returns-in-Err-clause-err : goal.returns-in-Err-clause-err
returns-in-Err-clause-err c =
    let nodes = c.loop-refusal.nodes.items in
    let fault : IsFault (length nodes) (Comments nodes) c.loop-refusal.rest.now c.in-Err.refusal =
    subst (λ (ns : List Node). IsFault (length ns) (Comments ns) c.loop-refusal.rest.now c.in-Err.refusal) c.deref.ensures.value c.in-Err.ensures.err in
    fault_behind 0 (length nodes) (length nodes) (Comments []) (Comments nodes) c.args.text.now c.loop-refusal.rest.now c.in-Err.refusal (omega arith) c.loop-refusal.invariant fault

pub loop-refusal-preserved : goal.loop-refusal-preserved
loop-refusal-preserved c =
    let nodes = c.loop-refusal.nodes.items in
    let found = some_holds (λ x. IsNextNode c.deref.result.now x.0 × (c.loop-refusal.rest.now ≡ node_line (length c.deref.result.now + 1) x.0 ++ x.1.now)) _ _ c.in-Ok-Some.field-0-is c.in-Ok-Some.ensures.some in
    let next = subst (λ (ns : List Node). IsNextNode ns c.in-Ok-Some.node × (c.loop-refusal.rest.now ≡ node_line (length ns + 1) c.in-Ok-Some.node ++ c.in-Ok-Some.behind.now)) c.deref.ensures.value found in
    node_more nodes c.push.new.self.items c.in-Ok-Some.node c.args.text.now c.loop-refusal.rest.now c.in-Ok-Some.behind.now c.in_ok-push-in-Ok-Some.ensures.items c.loop-refusal.invariant next.0 next.1
