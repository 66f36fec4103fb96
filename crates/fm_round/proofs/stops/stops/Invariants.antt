use Rattle.std.proofs.Common.{◌≡◌, ◌++◌}
use Rattle.std.specs.List.{filter_map}
use Rattle.fm_round.specs.Stopping.{stop_of, stops_of}
use Rattle.fm_round.proofs.stops.stops.Given as goal

abbrev pub invariant-loop-at : goal.invariant-loop-at
invariant-loop-at l = l.stops.items ++ filter_map (stop_of l.knowledge l.coordinator) l.at-iterator ≡ stops_of l.knowledge l.coordinator
