use Rattle.std.proofs.Common.{◌≡◌}
use Rattle.std.specs.Int.{w128}
use Rattle.std.proofs.lemmas.Int.{to_z-of_z}
use Rattle.fm_lattice.specs.Maps.{keep_new, put}
use Rattle.fm_lattice.specs.laws.MapLaws.{rising_put}
use Rattle.fm_net.specs.Nodes.{node_cmp}
use Rattle.fm_net.specs.laws.NodeOrder.{node_exact, node_total}
use Rattle.fm_certificate.proofs.potentials.Potentials.put.Goals as goal

-- the pairs after the put
put_is : (c : goal.In_ok-insert) → c.insert.new.pairs.items ≡ put node_cmp keep_new c.args.node c.args.potential c.self.inside.values.items
put_is c = rw (to_z-of_z w128 c.args.potential c.ranges.potential) at c.in_ok-insert.ensures.ok

pub insert-requires-clause-exact : goal.insert-requires-clause-exact
insert-requires-clause-exact c = node_exact

pub invariant_of-self-2 : goal.invariant_of-self-2
invariant_of-self-2 c = rw (put_is c) (rising_put node_cmp node_total node_exact keep_new c.args.node c.args.potential c.self.inside.values.items c.self.invariant)

pub returns-clause-ok : goal.returns-clause-ok
returns-clause-ok c = rw (← c.self.view_is) (put_is c)
