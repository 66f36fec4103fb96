use Rattle.fm_round.proofs.Flows.{waits_found, seats_counted}
use Rattle.fm_round.proofs.laws.law_flows.Goals as goal

pub returns-clause-tasks : goal.returns-clause-tasks
returns-clause-tasks c f r t rising = waits_found r t f rising

pub returns-clause-machines : goal.returns-clause-machines
returns-clause-machines c f r m rising = seats_counted r m f rising
