use Rattle.fm_records.specs.laws.RecordEqualityLaws.{preferences_Decides}
use Rattle.fm_records.proofs.laws.record_equality.preferences.Goals as goal

pub returns : goal.returns
returns c = rw c.eq.ensures (preferences_Decides c.args.prefer.now c.args.other.now)
