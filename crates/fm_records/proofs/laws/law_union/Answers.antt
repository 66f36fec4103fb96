use Rattle.fm_records.proofs.UnionLaws.{know_append}
use Rattle.fm_records.proofs.laws.law_union.Goals as goal

pub returns : goal.returns
returns c = know_append
