use Rattle.std.proofs.Common.{◌≡◌, ℕ, take}
use Rattle.fm_round.specs.PlanOfFlow.{machines_of}
use Rattle.fm_round.specs.inner.UnitQueues.{queue_of}
use Rattle.fm_round.proofs.from_units.Queues.of.Given as goal

abbrev pub invariant-loop-seat : goal.invariant-loop-seat
invariant-loop-seat l = (r : ℕ) → queue_of l.queues r ≡ machines_of r (take l.seat-index l.seats)
