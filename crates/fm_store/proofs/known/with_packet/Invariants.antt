use Rattle.std.proofs.Common.{◌≡◌, ◌++◌, map}
use Rattle.fm_store.specs.inner.OnePacket.{with_packet}
use Rattle.fm_store.proofs.known.with_packet.Given as goal

abbrev pub invariant-loop-one : goal.invariant-loop-one
invariant-loop-one l = map (with_packet l.packet) l.fn.known.items ≡ l.all.items ++ map (with_packet l.packet) l.one-iterator.rest.items
