use Rattle.fm_net.specs.Nodes.{node_cmp, ends_cmp}
use Rattle.fm_edit.proofs.Values.{rises_said}
use Rattle.fm_edit.proofs.affected.Touched.known.Goals as goal

pub returns-clause-nodes : goal.returns-clause-nodes
returns-clause-nodes c = rises_said node_cmp c.args.self.now.nodes.keys c.len-nodes.ensures.ordered

pub returns-clause-pairs : goal.returns-clause-pairs
returns-clause-pairs c = rises_said ends_cmp c.args.self.now.pairs.keys c.len-pairs.ensures.ordered
