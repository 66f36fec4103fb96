use Rattle.fm_indexed.proofs.Unscheduling.{are_flows}
use Rattle.fm_indexed.proofs.unscheduled.law_unscheduled.Goals as goal

pub returns : goal.returns
returns c = are_flows
