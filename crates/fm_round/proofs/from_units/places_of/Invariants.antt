use Rattle.std.proofs.Common.{◌≡◌, ℕ, take, drop, length}
use Rattle.std.specs.List.{filter_map}
use Rattle.fm_round.specs.PlanOfFlow.{waits, tasks_of, machines_of, place_in_plan}
use Rattle.fm_round.specs.inner.UnitQueues.{queue_of}
use Rattle.fm_round.proofs.from_units.places_of.Given as goal

abbrev pub invariant-loop-arc : goal.invariant-loop-arc
invariant-loop-arc l = record {
  found : l.found.items ≡ filter_map (place_in_plan (waits l.flow) l.seats l.knowledge) (take l.arc-index l.flow);
  left : (r : ℕ) → queue_of l.queues r ≡ drop (length (tasks_of r (waits (take l.arc-index l.flow)))) (machines_of r l.seats);
}
