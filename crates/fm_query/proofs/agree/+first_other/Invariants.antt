use Rattle.std.proofs.Common.{length}
use Rattle.fm_query.proofs.agree.+first_other.Given as goal

abbrev pub decreases-first_other : goal.decreases-first_other
decreases-first_other g l = length l.others.now
