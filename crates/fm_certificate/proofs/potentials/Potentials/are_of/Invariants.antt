use Rattle.std.proofs.Common.{◌↔◌}
use Rattle.std.specs.Slice.Iter.{iter_rest}
use Rattle.fm_certificate.specs.inner.Checks.{AreOf}
use Rattle.fm_certificate.proofs.potentials.Potentials.are_of.Given as goal

abbrev pub invariant-loop-node : goal.invariant-loop-node
invariant-loop-node l =
    (goal.iterator-loop-node).can_next l.node-iterator
    × (goal.iterator-loop-node).is_finite l.node-iterator
    × (AreOf l.self l.network.nodes ↔ AreOf (iter_rest l.values) l.node-iterator)
