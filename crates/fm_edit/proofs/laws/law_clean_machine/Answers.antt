use Rattle.fm_edit.proofs.LocalLaws.{load_same, spare_same}
use Rattle.fm_edit.proofs.laws.law_clean_machine.Goals as goal

pub returns-clause-load : goal.returns-clause-load
returns-clause-load c = load_same

pub returns-clause-spare : goal.returns-clause-spare
returns-clause-spare c = spare_same
