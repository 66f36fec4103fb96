use Rattle.std.proofs.Common.{◌≡◌, length}
use Rattle.fm_gossip.specs.Served.{all_told}
use Rattle.fm_gossip.proofs.intake.tell_all.Given as goal

abbrev pub invariant-loop-op : goal.invariant-loop-op
invariant-loop-op g l = (all_told l.seat l.rest ≡ all_told l.fn.seat l.fn.tells) × (l.seat.number ≡ l.fn.seat.number)

abbrev pub decreases-loop-op : goal.decreases-loop-op
decreases-loop-op g l = length l.rest
