use Rattle.std.proofs.Common.{◌≡◌, map, take}
use Rattle.fm_store.specs.KnownPackets.{unknown}
use Rattle.fm_store.proofs.known.AllKnown.none.Given as goal

abbrev pub invariant-loop-number : goal.invariant-loop-number
invariant-loop-number l = l.known.items ≡ map unknown (take l.number-index l.numbers)
