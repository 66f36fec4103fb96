use Rattle.fm_round.proofs.Told.{told_set}
use Rattle.fm_round.proofs.laws.law_told.Goals as goal

pub returns : goal.returns
returns c = told_set
