use Rattle.std.proofs.Common.{◌≡◌, ◌++◌}
use Rattle.fm_tally.specs.inner.Holdings.{nothing_on}
use Rattle.fm_tally.proofs.Each.{each}
use Rattle.fm_tally.proofs.holdings.Holdings.none.Given as goal

abbrev pub invariant-loop-machine : goal.invariant-loop-machine
invariant-loop-machine l = l.found.items ++ each nothing_on l.machine-iterator ≡ each nothing_on l.knowledge.machines
