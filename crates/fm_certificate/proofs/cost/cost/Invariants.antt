use Rattle.std.proofs.Common.{◌≡◌, ◌+◌, ◌*◌}
use Rattle.std.specs.List.{sum_by}
use Rattle.fm_certificate.specs.Flows.{units_in, cost_of}
use Rattle.fm_certificate.proofs.Exchange.{Arc}
use Rattle.fm_certificate.proofs.cost.cost.Given as goal

abbrev pub invariant-loop-arc : goal.invariant-loop-arc
invariant-loop-arc l =
    (goal.iterator-loop-arc).can_next l.arc-iterator
    × (goal.iterator-loop-arc).is_finite l.arc-iterator
    × (l.sum + sum_by (λ (a : Arc). a.1.1 * units_in l.flow a.0.0 a.0.1) l.arc-iterator ≡ cost_of l.network (units_in l.flow))
