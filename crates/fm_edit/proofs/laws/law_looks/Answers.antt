use Rattle.fm_edit.proofs.LookLaws.{looks_are_dirty}
use Rattle.fm_edit.proofs.laws.law_looks.Goals as goal

pub returns : goal.returns
returns c = looks_are_dirty
