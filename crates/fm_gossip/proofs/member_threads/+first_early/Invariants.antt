use Rattle.std.specs.Prelude.{length}
use Rattle.fm_gossip.proofs.member_threads.+first_early.Given as goal

abbrev pub decreases-first_early : goal.decreases-first_early
decreases-first_early g l = length l.dones.now
