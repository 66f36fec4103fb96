use Rattle.std.proofs.Common.{rules}
use Rattle.std.specs.Bool.{one_answer}
use Rattle.fm_know.specs.KnowledgeEquality.{same_table}
use Rattle.fm_know.specs.laws.KnowledgeEqualityLaws.{table_Decides}
use Rattle.fm_know.proofs.knowledge.KnowledgePartialEq.eq.Goals as goal

pub returns-then-equals-3-clause-exact : goal.returns-then-equals-3-clause-exact
returns-then-equals-3-clause-exact c = search rules

pub returns-then-equals-3-clause-value : goal.returns-then-equals-3-clause-value
returns-then-equals-3-clause-value c = one_answer c.equals-then-equals-3.result (same_table c.args.self.now c.args.other.now) (returns-then-equals-3-clause-exact c) (table_Decides c.args.self.now c.args.other.now)

pub returns-else-equals-3-clause-exact : goal.returns-else-equals-3-clause-exact
returns-else-equals-3-clause-exact c = search rules

pub returns-else-equals-3-clause-value : goal.returns-else-equals-3-clause-value
returns-else-equals-3-clause-value c = one_answer c.if-equals-2.value (same_table c.args.self.now c.args.other.now) (returns-else-equals-3-clause-exact c) (table_Decides c.args.self.now c.args.other.now)
