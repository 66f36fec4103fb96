use Rattle.std.proofs.Common.{◌≡◌, ◌++◌}
use Rattle.fm_tally.proofs.Rows.{rows}
use Rattle.fm_relief.specs.inner.Excesses.{excess_at, all_excesses}
use Rattle.fm_relief.proofs.excess.excesses_of.Given as goal

abbrev pub invariant-loop-machine : goal.invariant-loop-machine
invariant-loop-machine l = l.found.items ++ rows (excess_at l.knowledge) l.machine-iterator ≡ all_excesses l.knowledge
