use Rattle.fm_net.proofs.SetNetworkLaws.{set_network_is}
use Rattle.fm_net.proofs.laws.law_network_of_sets.Goals as goal

pub returns : goal.returns
returns c = set_network_is
