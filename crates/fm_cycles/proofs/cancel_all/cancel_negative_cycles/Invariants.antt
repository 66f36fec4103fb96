use Rattle.std.proofs.Common.{◌≡◌, ◌≤◌, length}
use Rattle.fm_cycles.specs.Units.{AreWithin, HaveSameBalance, cost_of_units}
use Rattle.fm_cycles.proofs.cancel_all.cancel_negative_cycles.Given as goal

abbrev pub invariant-rounds : goal.invariant-rounds
invariant-rounds l = record {
  all : length l.costs.items ≡ l.nodes;
  sized : length l.units.items ≡ length l.arcs;
  within : AreWithin l.arcs l.units.items;
  kept : HaveSameBalance l.arcs l.initial.units.items l.units.items;
  no_dearer : cost_of_units l.arcs l.units.items ≤ cost_of_units l.arcs l.initial.units.items;
}

abbrev pub decreases-rounds : goal.decreases-rounds
decreases-rounds l = cost_of_units l.arcs l.units.items
