use Rattle.std.proofs.Common.{sym}
use Rattle.fm_records.proofs.SpelledLaws.{know_ops}
use Rattle.fm_records.proofs.laws.law_ops.Goals as goal

pub returns : goal.returns
returns c k is = sym (know_ops k is)
