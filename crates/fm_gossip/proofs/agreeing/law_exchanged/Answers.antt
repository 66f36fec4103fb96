use Rattle.std.proofs.Common.{map, subst}
use Rattle.fm_coord.specs.Numbers.{AreDistinct}
use Rattle.fm_world.specs.Represents.{state_of}
use Rattle.fm_gossip.proofs.Numbers.{numbers_of}
use Rattle.fm_gossip.proofs.Same.{know_same_after}
use Rattle.fm_gossip.proofs.agreeing.law_exchanged.Goals as goal

pub returns : goal.returns
returns g c = know_same_after (map state_of c.args.coordinators.now) c.law_known.ensures (subst AreDistinct (numbers_of c.args.coordinators.now) c.requires)
