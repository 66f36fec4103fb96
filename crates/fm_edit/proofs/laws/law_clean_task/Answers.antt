use Rattle.fm_edit.proofs.LocalLaws.{live_same, holder_same}
use Rattle.fm_edit.proofs.laws.law_clean_task.Goals as goal

pub returns-clause-live : goal.returns-clause-live
returns-clause-live c = live_same

pub returns-clause-holder : goal.returns-clause-holder
returns-clause-holder c = holder_same
