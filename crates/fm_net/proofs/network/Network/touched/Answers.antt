use Rattle.std.specs.Map.{keys_of}
use Rattle.fm_net.proofs.Touches.{touches_said}
use Rattle.fm_net.proofs.network.Network.touched.Goals as goal

pub returns : goal.returns
returns c = rw (c.touches.ensures, ← c.self.view_is) (touches_said (record { nodes = keys_of c.self.inside.nodes; arcs = c.self.inside.arcs }) c.args.node.now)
