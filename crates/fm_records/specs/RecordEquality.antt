-- Tests that decide whether two values are the same.
use Rattle.std.specs.Prelude.{Bool}
use Rattle.fm_records.specs.declared.ops.Op.{Op}
use Rattle.fm_records.specs.contracts.ops.OpPartialEq.TheImpl as op_eq

-- whether two operations are the same, as `Op` derives it
abbrev pub same_op : Op → Op → Bool
same_op = (op_eq.ghosts).eq
