-- All are within their capacities if those still to come are.
use Rattle.std.proofs.Common.{◌↔◌, drop}
use Rattle.fm_cycles.specs.Units.{AreWithin}
use Rattle.fm_indexed.proofs.feasible_units.are_within.Given as goal

abbrev pub invariant-loop-place : goal.invariant-loop-place
invariant-loop-place l = AreWithin l.arcs l.units ↔ AreWithin (drop l.place l.arcs) (drop l.place l.units)
