use Rattle.std.proofs.Common.{length}
use Rattle.fm_salvage.proofs.Lines.{SoFar}
use Rattle.fm_salvage.proofs.listing.list_packets.Given as goal

abbrev pub invariant-loop-found : goal.invariant-loop-found
invariant-loop-found l = SoFar l.total l.frames l.rest l.initial.text.items l.text.items

abbrev pub decreases-loop-found : goal.decreases-loop-found
decreases-loop-found l = length l.rest
