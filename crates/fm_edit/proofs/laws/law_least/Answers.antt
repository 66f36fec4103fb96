use Rattle.fm_edit.proofs.Least.{none_shorter}
use Rattle.fm_edit.proofs.laws.law_least.Goals as goal

pub returns : goal.returns
returns c = none_shorter
