use Rattle.std.proofs.Common.{◌≡◌, ◌++◌}
use Rattle.fm_store.specs.KnownPackets.{packets_with}
use Rattle.fm_store.proofs.known.packets_of.Given as goal

abbrev pub invariant-loop-one : goal.invariant-loop-one
invariant-loop-one l = packets_with l.fn.known.items ≡ l.packets.items ++ packets_with l.one-iterator.rest.items
