use Rattle.std.proofs.Common.{length}
use Rattle.fm_salvage.proofs.Knowing.{SoFar}
use Rattle.fm_salvage.proofs.recovering.join_packets.Given as goal

abbrev pub invariant-loop-found : goal.invariant-loop-found
invariant-loop-found l = SoFar l.frames l.rest l.initial.all.known.items l.all.known.items

abbrev pub decreases-loop-found : goal.decreases-loop-found
decreases-loop-found l = length l.rest
