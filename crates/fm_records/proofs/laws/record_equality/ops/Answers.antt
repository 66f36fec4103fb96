use Rattle.fm_records.specs.laws.RecordEqualityLaws.{op_Decides}
use Rattle.fm_records.proofs.laws.record_equality.ops.Goals as goal

pub returns : goal.returns
returns c = rw c.eq.ensures (op_Decides c.args.op.now c.args.other.now)
