use Rattle.fm_relief.specs.Relief.{tasks_on}
use Rattle.fm_relief.proofs.Held.{apart, on_rises}
use Rattle.fm_relief.proofs.Least.{goes_from, goes_in, order_kept}
use Rattle.fm_relief.proofs.laws.law_just.Goals as goal

pub returns-clause-members : goal.returns-clause-members
returns-clause-members c k m nic e = (goes_from (tasks_on k m) nic e, goes_in (tasks_on k m) nic e)

pub returns-clause-order : goal.returns-clause-order
returns-clause-order c k m nic table = order_kept (tasks_on k m) nic (apart (tasks_on k m) (on_rises k m table.tasks.rising))
