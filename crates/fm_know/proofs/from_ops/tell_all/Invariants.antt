use Rattle.std.proofs.Common.{◌≡◌, take}
use Rattle.fm_records.specs.Know.{table_of}
use Rattle.fm_know.proofs.from_ops.tell_all.Given as goal

abbrev pub invariant-loop-op : goal.invariant-loop-op
invariant-loop-op l = l.all ≡ table_of (take l.op-index l.ops)
