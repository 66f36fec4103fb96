use Rattle.std.proofs.Common.{◌≡◌, ◌++◌}
use Rattle.std.specs.List.{filter_map}
use Rattle.fm_certificate.specs.Flows.{units_in}
use Rattle.fm_certificate.proofs.Exchange.{Arc}
use Rattle.fm_why.specs.Alternatives.{move_over, moves_between}
use Rattle.fm_why.proofs.alternative.moves_between.Given as goal

abbrev pub invariant-loop-from : goal.invariant-loop-from
invariant-loop-from l =
    (goal.iterator-loop-from).can_next l.from-iterator
    × (goal.iterator-loop-from).is_finite l.from-iterator
    × (l.moves.items ++ filter_map (λ (a : Arc). move_over (units_in l.now) (units_in l.other) a.0) l.from-iterator ≡ moves_between l.network (units_in l.now) (units_in l.other))
