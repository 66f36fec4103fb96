use Rattle.fm_net.specs.laws.NodeOrder.{ends_exact}
use Rattle.fm_certificate.proofs.flow.Flow.units.Goals as goal

pub get-requires-clause-exact : goal.get-requires-clause-exact
get-requires-clause-exact c = ends_exact

pub returns : goal.returns
returns c = rw (← c.self.view_is) (rw c.deref.ensures.value at c.get.ensures)
