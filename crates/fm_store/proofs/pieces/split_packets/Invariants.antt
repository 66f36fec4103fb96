use Rattle.std.specs.Prelude.{max}
use Rattle.fm_store.proofs.Piecing.{SoFar}
use Rattle.fm_store.proofs.pieces.split_packets.Given as goal

abbrev pub invariant-loop-packet : goal.invariant-loop-packet
invariant-loop-packet l = SoFar (max l.most 4096) l.fn.packets.items l.packet-iterator.rest.items l.pieces.items
