use Rattle.std.specs.Prelude.{vec_len}
use Rattle.fm_gossip.proofs.work.+works.Given as goal

abbrev pub decreases-works : goal.decreases-works
decreases-works g l = vec_len l.members
