use Rattle.fm_relief.specs.Relief.{tasks_on}
use Rattle.fm_relief.proofs.Held.{apart, on_rises}
use Rattle.fm_relief.proofs.Least.{comes_earlier}
use Rattle.fm_relief.proofs.laws.law_first.Goals as goal

pub returns : goal.returns
returns c k m nic e u table gone there stays = comes_earlier (tasks_on k m) nic (apart (tasks_on k m) (on_rises k m table.tasks.rising)) e u gone there stays
