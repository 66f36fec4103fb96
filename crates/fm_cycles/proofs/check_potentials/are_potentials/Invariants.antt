use Rattle.fm_cycles.specs.Found.{costs_in}
use Rattle.fm_cycles.proofs.Fitting.{FitUpTo}
use Rattle.fm_cycles.proofs.check_potentials.are_potentials.Given as goal

abbrev pub invariant-loop-place : goal.invariant-loop-place
invariant-loop-place l = FitUpTo l.arcs l.units (costs_in l.costs) l.place
