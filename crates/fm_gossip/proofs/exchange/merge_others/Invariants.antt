use Rattle.std.proofs.Common.{length}
use Rattle.fm_gossip.proofs.Leaving.{SoFar}
use Rattle.fm_gossip.proofs.exchange.merge_others.Given as goal

abbrev pub invariant-loop-packet : goal.invariant-loop-packet
invariant-loop-packet g l = SoFar l.own l.fn.packets l.rest l.fn.coordinator.state l.coordinator.state

abbrev pub decreases-loop-packet : goal.decreases-loop-packet
decreases-loop-packet g l = length l.rest
