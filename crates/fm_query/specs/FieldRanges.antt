-- The fields of operations and their ranges, as text (this project's profile).
use Rattle.std.specs.Prelude.{ℕ, List, codes}
use Rattle.fm_records.specs.declared.ops.Field.{Field}
use Rattle.fm_records.specs.declared.ops.Field.TheVariants as field

-- a field, and its range
abbrev pub range_text : Field → List ℕ
range_text field.Writer = codes "writer must be from 1 to 64"
range_text field.Wait = codes "wait must be from 0 to 1000000000"
range_text field.Preempt = codes "preempt must be from 0 to 1000000000"
range_text field.Request = codes "request must be from 0 to 1000000"
range_text field.Prefer = codes "prefer must list machines by rising id, with credits from 0 to 1000000000"
range_text field.Slots = codes "slots must be from 1 to 1000"
range_text field.Nic = codes "nic must be from 0 to 1000000"
range_text field.Used = codes "used must be from 0 to 1000000000"
range_text field.Coordinator = codes "coordinator must be from 1 to 64"
