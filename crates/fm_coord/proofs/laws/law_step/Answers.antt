use Rattle.fm_coord.proofs.StepLaws.{same_bounds, stands_after}
use Rattle.fm_coord.proofs.laws.law_step.Goals as goal

pub returns-clause-causes : goal.returns-clause-causes
returns-clause-causes c = λ s r st. same_bounds s r st

pub returns-clause-step : goal.returns-clause-step
returns-clause-step c = λ s r e event st is h. stands_after s r st e event is h
