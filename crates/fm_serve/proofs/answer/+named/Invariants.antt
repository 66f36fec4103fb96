use Rattle.std.proofs.Common.{length}
use Rattle.fm_serve.proofs.answer.+named.Given as goal

abbrev pub decreases-named : goal.decreases-named
decreases-named l = length l.listed.now
