use Rattle.std.proofs.Common.{map, subst}
use Rattle.fm_coord.specs.Numbers.{AreDistinct}
use Rattle.fm_world.specs.Represents.{state_of}
use Rattle.fm_gossip.proofs.Numbers.{numbers_of}
use Rattle.fm_gossip.proofs.Senders.{cut_by_senders}
use Rattle.fm_gossip.proofs.agreeing.law_senders.Goals as goal

pub returns : goal.returns
returns g c = λ made whole. cut_by_senders (map state_of c.args.coordinators.now) made c.law_known.ensures (subst AreDistinct (numbers_of c.args.coordinators.now) c.requires) whole
