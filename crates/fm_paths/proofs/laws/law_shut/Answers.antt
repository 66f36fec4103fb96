use Rattle.fm_paths.proofs.Shut.{nothing_moves}
use Rattle.fm_paths.proofs.laws.law_shut.Goals as goal

pub returns : goal.returns
returns c k can_be can shut = nothing_moves k can_be can shut
