use Rattle.std.proofs.Common.{length, List}
use Rattle.fm_delta.specs.declared.packet.Packet.{Packet}
use Rattle.fm_store.proofs.Recovering.{SoFar}
use Rattle.fm_store.proofs.recovery.recover_into.Given as goal

abbrev pub invariant-loop-rest : goal.invariant-loop-rest
invariant-loop-rest g l = (packets : List Packet) × g.S.PacketSink.took l.fn.sink packets l.sink × SoFar l.head l.bytes l.rest packets

abbrev pub decreases-loop-rest : goal.decreases-loop-rest
decreases-loop-rest g l = length l.rest
