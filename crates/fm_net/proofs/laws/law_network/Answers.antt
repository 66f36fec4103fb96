use Rattle.fm_net.proofs.NetworkLaws.{network_is}
use Rattle.fm_net.proofs.laws.law_network.Goals as goal

pub returns : goal.returns
returns c = network_is
