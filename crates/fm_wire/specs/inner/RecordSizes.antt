-- How many bytes records have, with their keys.
use Rattle.std.specs.Prelude.{ℕ, ◌++◌, length}
use Rattle.fm_records.specs.Table.{TaskValue, MachineValue}
use Rattle.fm_wire.specs.declared.version.Version.TheVariants.{Fdg2}
use Rattle.fm_wire.specs.Grammar.{id, task, machine}

-- the bytes of a task
abbrev pub task_size : ℕ × TaskValue → ℕ
task_size e = length (id.spell e.0 ++ (task Fdg2).spell e.1)

-- the bytes of a machine
abbrev pub machine_size : ℕ × MachineValue → ℕ
machine_size e = length (id.spell e.0 ++ machine.spell e.1)
