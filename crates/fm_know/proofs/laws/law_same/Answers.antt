use Rattle.std.proofs.Common.{sym, ◌∙◌}
use Rattle.fm_records.proofs.SetExtensionality.{know_same}
use Rattle.fm_know.proofs.laws.law_same.Goals as goal

pub returns : goal.returns
returns c S T same left right = left ∙ know_same S T same ∙ sym right
