use Rattle.std.proofs.Common.{length}
use Rattle.fm_records.proofs.prefer.+credit_in.Given as goal

abbrev pub decreases-credit_in : goal.decreases-credit_in
decreases-credit_in l = length l.entries.now
