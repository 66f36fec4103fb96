use Rattle.std.proofs.Common.{◌↔◌}
use Rattle.fm_certificate.specs.inner.Checks.{FitAll}
use Rattle.fm_certificate.proofs.check.arcs_fit.Given as goal

abbrev pub invariant-loop-from : goal.invariant-loop-from
invariant-loop-from l =
    (goal.iterator-loop-from).can_next l.from-iterator
    × (goal.iterator-loop-from).is_finite l.from-iterator
    × (FitAll l.potentials l.flow l.network.arcs ↔ FitAll l.potentials l.entries l.from-iterator)
