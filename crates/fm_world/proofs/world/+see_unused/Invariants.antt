use Rattle.std.proofs.Common.{length}
use Rattle.fm_world.proofs.world.+see_unused.Given as goal

abbrev pub decreases-see_unused : goal.decreases-see_unused
decreases-see_unused g l = length l.coordinators.now
