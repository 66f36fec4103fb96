use Rattle.std.specs.Prelude.{length}
use Rattle.fm_gossip.proofs.work.+open_all.Given as goal

abbrev pub decreases-open_all : goal.decreases-open_all
decreases-open_all l = length l.inboxes.now
