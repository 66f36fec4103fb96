use Rattle.std.proofs.Common.{length}
use Rattle.fm_service.proofs.storing.+set_ends.Given as goal

abbrev pub decreases-set_ends : goal.decreases-set_ends
decreases-set_ends l = length l.coordinators.now
