use Rattle.std.proofs.Common.{◌≡◌, length}
use Rattle.fm_gossip.proofs.Merging.{AreSoFar}
use Rattle.fm_gossip.proofs.intake.merge_all.Given as goal

abbrev pub invariant-loop-own : goal.invariant-loop-own
invariant-loop-own g l = AreSoFar l.fn.awaited.items l.awaited.items l.fn.seat l.seat l.fn.own.port l.own.port × (l.seat.number ≡ l.fn.seat.number)

abbrev pub decreases-loop-own : goal.decreases-loop-own
decreases-loop-own g l = length l.awaited.items
