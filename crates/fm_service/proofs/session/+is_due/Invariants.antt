use Rattle.std.proofs.Common.{length}
use Rattle.fm_service.proofs.session.+is_due.Given as goal

abbrev pub decreases-is_due : goal.decreases-is_due
decreases-is_due l = length l.coordinators.now
