use Rattle.std.proofs.Common.{◌≡◌, ◌++◌, ℕ, List}
use Rattle.fm_records.specs.Table.{MachineValue}
use Rattle.fm_tally.specs.Tallies.{open_machine_at}
use Rattle.fm_tally.specs.inner.TallyParts.{all_machines}
use Rattle.fm_tally.proofs.Rows.{rows}
use Rattle.fm_tally.proofs.tally.machines_of.Given as goal

abbrev pub invariant-loop-machine : goal.invariant-loop-machine
invariant-loop-machine l = record {
  found : l.found.items ++ rows (open_machine_at l.knowledge) l.machine-iterator ≡ all_machines l.knowledge;
  walked : List (ℕ × MachineValue);
  whole : l.knowledge.machines ≡ walked ++ l.machine-iterator;
}
