use Rattle.fm_paths.proofs.Cheapest.{cheapest_is_least}
use Rattle.fm_paths.proofs.Fair.{fair_is_cheapest}
use Rattle.fm_paths.proofs.laws.law_fair.Goals as goal

pub returns : goal.returns
returns c k way price offer can_be can fit fair = cheapest_is_least k way price offer can_be can fit (fair_is_cheapest k way price offer fit.may fair)
