use Rattle.fm_share.specs.Shares.{has_task}
use Rattle.fm_share.proofs.Sublists.{filtered, limited}
use Rattle.fm_share.proofs.laws.law_sublist.Goals as goal

pub returns-clause-places : goal.returns-clause-places
returns-clause-places c k share plan = limited share.each (λ p. has_task k share.writers p.task) plan.places

pub returns-clause-preempts : goal.returns-clause-preempts
returns-clause-preempts c k share plan = filtered (λ p. has_task k share.writers p.task) plan.preempts
