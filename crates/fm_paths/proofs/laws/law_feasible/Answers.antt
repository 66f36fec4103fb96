use Rattle.fm_paths.proofs.Feasible.{feasible}
use Rattle.fm_paths.proofs.laws.law_feasible.Goals as goal

pub returns : goal.returns
returns c k way can_be can fit = feasible k way can_be can fit
