use Rattle.std.proofs.Common.{length}
use Rattle.fm_records.proofs.prefer.+law_ids.Given as goal

abbrev pub decreases-law_ids : goal.decreases-law_ids
decreases-law_ids l = length l.entries.now
