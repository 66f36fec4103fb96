use Rattle.fm_net.specs.laws.NodeOrder.{node_exact}
use Rattle.fm_certificate.proofs.potentials.Potentials.at.Goals as goal

pub get-requires-clause-exact : goal.get-requires-clause-exact
get-requires-clause-exact c = node_exact

pub returns : goal.returns
returns c = rw (← c.self.view_is) (rw c.deref.ensures.value at c.get.ensures)
