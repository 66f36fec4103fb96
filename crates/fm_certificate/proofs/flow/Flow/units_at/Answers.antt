use Rattle.fm_net.specs.laws.NodeOrder.{ends_exact}
use Rattle.fm_certificate.proofs.flow.Flow.units_at.Goals as goal

pub get_hinted-requires-clause-exact : goal.get_hinted-requires-clause-exact
get_hinted-requires-clause-exact c = ends_exact

pub returns : goal.returns
returns c = rw (← c.self.view_is) (rw c.deref.ensures.value at c.get_hinted.ensures)
