-- Node order is a total order in which only a node and itself are equal, and so is the order of ends.
use Rattle.std.specs.Prelude.{refl}
use Rattle.std.specs.FinMap.{nat_cmp-IsAntisymmetric}
use Rattle.std.specs.Cmp.{IsTotalOrder}
use Rattle.std.proofs.Common.{ap}
use Rattle.std.proofs.lemmas.Cmp.{then_total, on_total}
use Rattle.fm_lattice.specs.Chains.{TellsApart}
use Rattle.fm_lattice.specs.laws.ChainLaws.{pair_same}
use Rattle.fm_net.specs.contracts.node.NodeOrd.TheImpl.Laws as node_laws
use Rattle.fm_net.specs.declared.node.Node.{Node}
use Rattle.fm_net.specs.declared.node.Node.TheVariants.{Sink, Unscheduled, Request, Machine, Task}
use Rattle.fm_net.specs.Nodes.{node_cmp, ends_cmp}

pub node_exact : TellsApart node_cmp
node_exact Sink Sink e = refl
node_exact Sink _ e = absurd (cc)
node_exact (Unscheduled x) (Unscheduled y) e = ap Unscheduled (nat_cmp-IsAntisymmetric x y e)
node_exact (Unscheduled x) _ e = absurd (cc)
node_exact (Request x) (Request y) e = ap Request (nat_cmp-IsAntisymmetric x y e)
node_exact (Request x) _ e = absurd (cc)
node_exact (Machine x) (Machine y) e = ap Machine (nat_cmp-IsAntisymmetric x y e)
node_exact (Machine x) _ e = absurd (cc)
node_exact (Task x) (Task y) e = ap Task (nat_cmp-IsAntisymmetric x y e)
node_exact (Task x) _ e = absurd (cc)

pub node_total : IsTotalOrder node_cmp
node_total = node_laws.total-law

pub ends_total : IsTotalOrder ends_cmp
ends_total = then_total (on_total (λ (e : Node × Node). e.0) node_total) (on_total (λ (e : Node × Node). e.1) node_total)

pub ends_exact : TellsApart ends_cmp
ends_exact = pair_same node_cmp node_cmp node_exact node_exact
