use Rattle.std.proofs.Common.{length}
use Rattle.fm_records.proofs.ops.+rises_above.Given as goal

abbrev pub decreases-rises_above : goal.decreases-rises_above
decreases-rises_above l = length l.entries.now
