use Rattle.std.proofs.Common.{map}
use Rattle.fm_world.specs.Represents.{state_of}
use Rattle.fm_world.specs.inner.Sweeps.{IsSwept, count_left}
use Rattle.fm_world.proofs.sweeping.sweep_all.Given as goal

abbrev pub invariant-loop : goal.invariant-loop
invariant-loop g l = IsSwept (map state_of l.coordinators) l.places l.gathered.steps.items l.gathered.packets

abbrev pub decreases-loop : goal.decreases-loop
decreases-loop g l = count_left (map state_of l.coordinators) l.places
