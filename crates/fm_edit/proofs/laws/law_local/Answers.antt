use Rattle.fm_edit.proofs.LocalLaws.{node_same, arc_same}
use Rattle.fm_edit.proofs.laws.law_local.Goals as goal

pub returns-clause-nodes : goal.returns-clause-nodes
returns-clause-nodes c = node_same

pub returns-clause-arcs : goal.returns-clause-arcs
returns-clause-arcs c = arc_same
