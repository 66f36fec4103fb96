-- A comment that is not read does not stand there, and one of a node that may not come next is broken.
use Rattle.std.proofs.Common.{◌+◌, length, arith}
use Rattle.fm_net.specs.Nodes.{IsInRange}
use Rattle.fm_dimacs.proofs.Leading.{next_in_range}
use Rattle.fm_dimacs.proofs.ReadLines.{node_takes}
use Rattle.fm_dimacs.proofs.Reader.{reads_none, reads_some, some_holds, no_node, out_of_order}
use Rattle.fm_dimacs.proofs.read.next_node.Goals as goal

pub returns-in-Ok-None-clause-none : goal.returns-in-Ok-None-clause-none
returns-in-Ok-None-clause-none c = λ n behind next is.
    no_node (length c.args.nodes.now + 1) c.args.text.now n behind (omega arith) (reads_none _ _ _ c.in-Ok-None.field-0-is c.in-Ok-None.ensures.reads) (next_in_range c.args.nodes.now n next) is

pub returns-then-comes_next-clause-some : goal.returns-then-comes_next-clause-some
returns-then-comes_next-clause-some c =
    (c.comes_next.ensures.0 c.if-comes_next.true, node_takes (length c.args.nodes.now + 1) c.args.text.now (c.in-Ok-Some.node, c.in-Ok-Some.behind.now) (reads_some _ _ _ _ c.in-Ok-Some.field-0-is c.in-Ok-Some.ensures.reads))

pub returns-else-comes_next-clause-err : goal.returns-else-comes_next-clause-err
returns-else-comes_next-clause-err c =
    out_of_order c.args.nodes.now c.args.text.now c.in-Ok-Some.node c.in-Ok-Some.behind.now (omega arith) (some_holds (λ x. IsInRange x.0) _ _ c.in-Ok-Some.field-0-is c.in-Ok-Some.ensures.in_range) (reads_some _ _ _ _ c.in-Ok-Some.field-0-is c.in-Ok-Some.ensures.reads)
    (λ h. let yes = c.comes_next.ensures.1 h in let never : ⊥ = cc in never)
