use Rattle.std.proofs.Common.{map}
use Rattle.fm_world.specs.Represents.{state_of}
use Rattle.fm_world.specs.inner.Sweeps.{IsSwept, IsSweep}
use Rattle.fm_world.proofs.sweeping.sweep.Given as goal

abbrev pub invariant-loop-i : goal.invariant-loop-i
invariant-loop-i g l =
    IsSwept (map state_of l.coordinators) l.places l.gathered.steps.items l.gathered.packets
    × IsSweep (map state_of l.coordinators) l.i l.moved l.fn.places l.places l.fn.gathered.packets l.gathered.packets
