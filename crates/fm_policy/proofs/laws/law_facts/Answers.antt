use Rattle.fm_policy.proofs.FactsLaws.{there_is, arc_is}
use Rattle.fm_policy.proofs.laws.law_facts.Goals as goal

pub returns-clause-nodes : goal.returns-clause-nodes
returns-clause-nodes c = there_is

pub returns-clause-arcs : goal.returns-clause-arcs
returns-clause-arcs c = arc_is
