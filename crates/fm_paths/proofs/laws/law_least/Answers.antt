use Rattle.fm_paths.proofs.Cheapest.{cheapest_is_least}
use Rattle.fm_paths.proofs.laws.law_least.Goals as goal

pub returns : goal.returns
returns c k way price offer can_be can fit cheap = cheapest_is_least k way price offer can_be can fit cheap
