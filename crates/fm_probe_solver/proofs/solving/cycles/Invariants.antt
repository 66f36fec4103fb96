-- The units stay within the capacities.
use Rattle.std.proofs.Common.{◌≡◌, length}
use Rattle.fm_cycles.specs.Units.{AreWithin}
use Rattle.fm_probe_solver.proofs.solving.cycles.Given as goal

abbrev pub invariant-loop-count : goal.invariant-loop-count
invariant-loop-count l = record {
  sized : length l.units.items ≡ length l.arcs;
  within : AreWithin l.arcs l.units.items;
}
