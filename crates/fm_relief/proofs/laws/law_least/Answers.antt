use Rattle.fm_relief.specs.Relief.{tasks_on}
use Rattle.fm_relief.proofs.Held.{apart, on_rises}
use Rattle.fm_relief.proofs.Least.{least}
use Rattle.fm_relief.proofs.laws.law_least.Goals as goal

pub returns : goal.returns
returns c k m nic es e table is = least (tasks_on k m) nic (apart (tasks_on k m) (on_rises k m table.tasks.rising)) es e is
