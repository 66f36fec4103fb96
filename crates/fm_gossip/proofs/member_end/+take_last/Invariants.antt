use Rattle.std.specs.Prelude.{length}
use Rattle.fm_gossip.proofs.member_end.+take_last.Given as goal

abbrev pub decreases-take_last : goal.decreases-take_last
decreases-take_last g l = length l.dones.now
