use Rattle.fm_paths.proofs.Going.{preempts_are}
use Rattle.fm_paths.proofs.laws.law_preempts.Goals as goal

pub returns : goal.returns
returns c k way can_be can fit = preempts_are k way can_be can fit.may
