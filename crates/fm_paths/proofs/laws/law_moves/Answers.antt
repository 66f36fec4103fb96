use Rattle.fm_paths.proofs.Moves.{moves_plan}
use Rattle.fm_paths.proofs.FitMoves.{moves_fit}
use Rattle.fm_paths.proofs.laws.law_moves.Goals as goal

pub returns-clause-fit : goal.returns-clause-fit
returns-clause-fit c k moves can_be are fits = moves_fit k moves can_be are fits

pub returns-clause-plan : goal.returns-clause-plan
returns-clause-plan c k moves price offer can_be can are fits fair in_turn = moves_plan k moves can_be are price offer can (moves_fit k moves can_be are fits) fair in_turn
