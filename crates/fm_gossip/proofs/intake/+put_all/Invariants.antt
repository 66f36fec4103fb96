use Rattle.std.specs.Prelude.{length}
use Rattle.fm_gossip.proofs.intake.+put_all.Given as goal

abbrev pub decreases-put_all : goal.decreases-put_all
decreases-put_all g l = length l.ports.now
