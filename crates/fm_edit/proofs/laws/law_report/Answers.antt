use Rattle.fm_edit.proofs.LocalLaws.{none_dirty}
use Rattle.fm_edit.proofs.laws.law_report.Goals as goal

pub returns : goal.returns
returns c = none_dirty
