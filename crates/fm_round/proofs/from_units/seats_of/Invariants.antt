use Rattle.std.proofs.Common.{◌≡◌, ◌++◌, drop}
use Rattle.fm_round.specs.PlanOfFlow.{seats}
use Rattle.fm_round.proofs.from_units.seats_of.Given as goal

abbrev pub invariant-loop-arc : goal.invariant-loop-arc
invariant-loop-arc l = l.found.items ++ seats (drop l.arc-index l.flow) ≡ seats l.flow
