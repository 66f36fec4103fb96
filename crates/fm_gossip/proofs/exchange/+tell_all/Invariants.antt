use Rattle.std.specs.Prelude.{length}
use Rattle.fm_gossip.proofs.exchange.+tell_all.Given as goal

abbrev pub decreases-tell_all : goal.decreases-tell_all
decreases-tell_all g l = length l.coordinators.now
