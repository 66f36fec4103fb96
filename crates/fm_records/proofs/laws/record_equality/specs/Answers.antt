use Rattle.std.proofs.Common.{rules}
use Rattle.fm_records.specs.laws.RecordEqualityLaws.{preferences_Decides}
use Rattle.fm_records.proofs.laws.record_equality.specs.Goals as goal

pub returns : goal.returns
returns c = Prim.search (rules, preferences_Decides)
