use Rattle.fm_edit.proofs.LocalLaws.{same_beyond}
use Rattle.fm_edit.proofs.laws.law_same_beyond.Goals as goal

pub returns : goal.returns
returns c = λ k d p q. same_beyond k d p.table q.table
