use Rattle.fm_net.proofs.EditLaws.{change_may, change_gives}
use Rattle.fm_net.proofs.laws.law_change.Goals as goal

pub returns-clause-may : goal.returns-clause-may
returns-clause-may c = change_may

pub returns-clause-gives : goal.returns-clause-gives
returns-clause-gives c = change_gives
