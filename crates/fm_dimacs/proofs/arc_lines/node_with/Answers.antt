-- The node at the place before the ID is the one that has it.
use Rattle.std.proofs.Common.{◌∙◌}
use Rattle.fm_dimacs.proofs.Arcs.{node_found, node_missing, no_node_0}
use Rattle.fm_dimacs.proofs.arc_lines.node_with.Goals as goal

pub returns-then-id-eq0-clause-none : goal.returns-then-id-eq0-clause-none
returns-then-id-eq0-clause-none c = λ n stands is. no_node_0 c.args.nodes.now n stands (is ∙ c.if-id-eq0.true)

pub returns-in-Some-clause-some : goal.returns-in-Some-clause-some
returns-in-Some-clause-some c = node_found c.args.nodes.now c.args.id c.in-Some.node.now c.requires c.if-id-eq0.false c.in-Some.ensures.lookup.3.0 c.in-Some.ensures.lookup.1

pub returns-in-None-clause-none : goal.returns-in-None-clause-none
returns-in-None-clause-none c = node_missing c.args.nodes.now c.args.id c.in-None.ensures.lookup.3
