use Rattle.fm_records.proofs.SetExtensionality.{know_same}
use Rattle.fm_records.proofs.laws.law_same.Goals as goal

pub returns : goal.returns
returns c = know_same
