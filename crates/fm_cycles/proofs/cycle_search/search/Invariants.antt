use Rattle.std.proofs.Common.{◌-◌}
use Rattle.fm_cycles.specs.Found.{costs_in}
use Rattle.fm_cycles.specs.Residual.{residual}
use Rattle.fm_cycles.proofs.Searched.{IsSearching}
use Rattle.fm_cycles.proofs.cycle_search.search.Given as goal

abbrev pub invariant-rounds : goal.invariant-rounds
invariant-rounds l = IsSearching (residual l.arcs l.units) l.nodes (costs_in l.fn.first.items) l.labels l.sweeps

abbrev pub decreases-rounds : goal.decreases-rounds
decreases-rounds l = l.nodes - l.sweeps
