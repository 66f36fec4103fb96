use Rattle.std.proofs.Common.{◌≡◌, map, take}
use Rattle.fm_world.specs.Represents.{number_of}
use Rattle.fm_service.proofs.storing.numbers_of.Given as goal

abbrev pub invariant-loop-coordinator : goal.invariant-loop-coordinator
invariant-loop-coordinator l = l.numbers.items ≡ map number_of (take l.coordinator-index l.coordinator-items)
