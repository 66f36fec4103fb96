use Rattle.std.proofs.Common.{length}
use Rattle.fm_world.proofs.laws.+law_known.Given as goal

abbrev pub decreases-law_known : goal.decreases-law_known
decreases-law_known g l = length l.coordinators.now
