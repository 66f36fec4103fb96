use Rattle.std.proofs.Common.{◌↔◌}
use Rattle.fm_certificate.specs.inner.Checks.{AreUnitsWithin}
use Rattle.fm_certificate.proofs.feasible.are_units_within.Given as goal

abbrev pub invariant-loop-from : goal.invariant-loop-from
invariant-loop-from l =
    (goal.iterator-loop-from).can_next l.from-iterator
    × (goal.iterator-loop-from).is_finite l.from-iterator
    × (AreUnitsWithin l.flow l.network.arcs ↔ AreUnitsWithin l.entries l.from-iterator)
