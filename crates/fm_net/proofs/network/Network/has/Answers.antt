use Rattle.std.proofs.Common.{◌∙◌}
use Rattle.fm_net.proofs.Said.{found_key}
use Rattle.fm_net.proofs.network.Network.has.Goals as goal

pub returns : goal.returns
returns c = rw (← c.self.view_is) (c.has.ensures ∙ found_key c.args.node.now c.self.inside.nodes)
