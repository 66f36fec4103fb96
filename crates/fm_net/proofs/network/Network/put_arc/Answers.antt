use Rattle.std.proofs.Common.{◌∙◌, ap, refl, sym, subst, arith}
use Rattle.std.specs.Map.{keys_of}
use Rattle.fm_lattice.specs.Maps.{lookup, keep_new, IsRising}
use Rattle.fm_lattice.specs.laws.MapLaws.{rising_put}
use Rattle.fm_net.specs.Nodes.{ends_cmp}
use Rattle.fm_net.specs.laws.NodeOrder.{ends_exact, ends_total}
use Rattle.fm_net.specs.Net.{Net, has_node}
use Rattle.fm_net.proofs.Kept.{after_put_arc}
use Rattle.fm_net.proofs.Said.{arc_with}
use Rattle.fm_net.proofs.network.Network.put_arc.Goals as goal

pub invariant_of-self-2 : goal.invariant_of-self-2
invariant_of-self-2 c =
    let old : Net = record { nodes = keys_of c.self.inside.nodes; arcs = c.self.inside.arcs } in
    let new : Net = record { nodes = keys_of c.self.inside.nodes; arcs = c.put.new.self } in
    after_put_arc old new c.self.invariant c.args.from c.args.to refl
    (subst (IsRising ends_cmp) (sym c.in_ok-put.ensures.ok) (rising_put ends_cmp ends_total ends_exact keep_new (c.args.from, c.args.to) (c.args.capacity, c.args.cost) c.self.inside.arcs c.self.invariant.arcs_rise))
    (c.args.capacity, c.args.cost)
    (record {
      from_stands = ap (λ net. has_node net c.args.from) c.self.view_is ∙ c.requires.from_stands;
      to_stands = ap
          (λ net. has_node net c.args.to) c.self.view_is ∙ c.requires.to_stands;
      kinds = c.requires.kinds;
      capacity_above =
          c.requires.capacity_above;
      capacity_fits = omega arith;
      cost_within = c.requires.cost_within;
    })
    (λ a b. ap (lookup ends_cmp (a, b)) c.in_ok-put.ensures.ok ∙ arc_with c.args.from c.args.to (c.args.capacity, c.args.cost) old c.self.invariant.arcs_rise a b)

pub returns-clause-arc : goal.returns-clause-arc
returns-clause-arc c =
    let old : Net = record { nodes = keys_of c.self.inside.nodes; arcs = c.self.inside.arcs } in
    rw (← c.self.view_is) (λ a b. ap (lookup ends_cmp (a, b)) c.in_ok-put.ensures.ok ∙ arc_with c.args.from c.args.to (c.args.capacity, c.args.cost) old c.self.invariant.arcs_rise a b)
