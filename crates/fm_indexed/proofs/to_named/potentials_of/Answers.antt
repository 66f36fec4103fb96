use Rattle.std.proofs.Common.{◌∙◌, List, ap, sym, subst}
use Rattle.std.specs.Prelude.{ℤ}
use Rattle.fm_lattice.specs.Maps.{IsRising}
use Rattle.fm_net.specs.declared.node.Node.{Node}
use Rattle.fm_net.specs.Nodes.{node_cmp}
use Rattle.fm_indexed.specs.inner.Named.{named_potentials}
use Rattle.fm_indexed.proofs.Naming.{valued_rise}
use Rattle.fm_indexed.proofs.to_named.potentials_of.Goals as goal

pub of-requires : goal.of-requires
of-requires c =
    subst (λ (pairs : List (Node × ℤ)). IsRising node_cmp pairs)
    (sym (c.in_ok-pairs.ensures ∙ ap (λ (nodes : List Node). named_potentials nodes c.args.values.now) c.requires.nodes))
    (valued_rise c.args.network.now.nodes c.args.values.now c.known.ensures.nodes_rise)
