use Rattle.std.proofs.Common.{◌≡◌, ◌+◌, drop}
use Rattle.fm_lattice.specs.Maps.{IsRising}
use Rattle.fm_net.specs.Nodes.{ends_cmp}
use Rattle.fm_certificate.specs.Totals.{source, units_at}
use Rattle.fm_certificate.specs.inner.Outflow.{NoneBelow}
use Rattle.fm_certificate.proofs.outflow.sum_from.Given as goal

abbrev pub invariant-loop-entry : goal.invariant-loop-entry
invariant-loop-entry l =
    IsRising ends_cmp (drop l.entry-index l.entry-items)
    × NoneBelow l.node (drop l.entry-index l.entry-items)
    × (l.sum + units_at source (drop l.entry-index l.entry-items) l.node ≡ units_at source l.units l.node)
