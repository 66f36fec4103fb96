use Rattle.fm_fleet.proofs.Wholes.{whole_done, whole_refused}
use Rattle.fm_fleet.proofs.laws.law_whole_round.Goals as goal

pub returns-clause-done : goal.returns-clause-done
returns-clause-done c = whole_done c.law_whole.ensures

pub returns-clause-refused : goal.returns-clause-refused
returns-clause-refused c = whole_refused c.law_whole.ensures
