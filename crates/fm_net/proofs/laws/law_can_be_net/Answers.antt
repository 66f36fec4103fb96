use Rattle.fm_net.proofs.BoundLaws.{net_can_be}
use Rattle.fm_net.proofs.laws.law_can_be_net.Goals as goal

pub returns : goal.returns
returns c = net_can_be
