use Rattle.std.proofs.Common.{length}
use Rattle.fm_script.proofs.find_fault.+first_lacking.Given as goal

abbrev pub decreases-first_lacking : goal.decreases-first_lacking
decreases-first_lacking l = length l.members.now
