use Rattle.std.proofs.Common.{length}
use Rattle.fm_world.proofs.distinct.+distinct.Given as goal

abbrev pub decreases-distinct : goal.decreases-distinct
decreases-distinct g l = length l.coordinators.now
