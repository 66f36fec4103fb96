use Rattle.fm_edit.proofs.Once.{change_apart}
use Rattle.fm_edit.proofs.laws.law_once.Goals as goal

pub returns : goal.returns
returns c = change_apart
