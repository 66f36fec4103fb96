use Rattle.std.specs.Prelude.{length}
use Rattle.fm_gossip.proofs.exchange.+cut_all.Given as goal

abbrev pub decreases-cut_all : goal.decreases-cut_all
decreases-cut_all g l = length l.coordinators.now
