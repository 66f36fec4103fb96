use Rattle.std.proofs.Common.{◌≡◌, ◌++◌, map, drop}
use Rattle.fm_world.specs.Represents.{state_of}
use Rattle.fm_serve.specs.Musters.{calls_of}
use Rattle.fm_serve.proofs.muster.calls_of.Given as goal

abbrev pub invariant-loop-coordinator : goal.invariant-loop-coordinator
invariant-loop-coordinator l = l.calls.items ++ map calls_of (map state_of (drop l.coordinator-index l.closed)) ≡ map calls_of (map state_of l.closed)
