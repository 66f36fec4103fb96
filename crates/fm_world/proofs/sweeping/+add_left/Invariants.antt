use Rattle.std.proofs.Common.{length}
use Rattle.fm_world.proofs.sweeping.+add_left.Given as goal

abbrev pub decreases-add_left : goal.decreases-add_left
decreases-add_left g l = length l.coordinators.now
