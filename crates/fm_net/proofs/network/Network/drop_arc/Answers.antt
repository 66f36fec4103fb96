use Rattle.std.proofs.Common.{◌∙◌, ap, refl, sym, subst}
use Rattle.std.specs.Map.{keys_of}
use Rattle.fm_lattice.specs.Maps.{lookup, IsRising}
use Rattle.fm_net.proofs.EditLaws.{rising_removed}
use Rattle.fm_net.specs.Nodes.{ends_cmp}
use Rattle.fm_net.specs.Net.{Net}
use Rattle.fm_net.proofs.Kept.{after_drop_arc}
use Rattle.fm_net.proofs.Said.{same_lists, arc_without}
use Rattle.fm_net.proofs.network.Network.drop_arc.Goals as goal

pub invariant_of-self : goal.invariant_of-self
invariant_of-self c =
    let old : Net = record { nodes = keys_of c.self.inside.nodes; arcs = c.self.inside.arcs } in
    let new : Net = record { nodes = keys_of c.self.inside.nodes; arcs = c.remove.new.self } in
    after_drop_arc old new c.self.invariant c.args.from c.args.to refl
    (subst (IsRising ends_cmp) (sym c.remove.ensures.without) (rising_removed (c.args.from, c.args.to) c.self.inside.arcs c.self.invariant.arcs_rise))
    (λ a b. ap (lookup ends_cmp (a, b)) c.remove.ensures.without ∙ arc_without c.args.from c.args.to old c.self.invariant.arcs_rise a b)

pub returns-clause-without : goal.returns-clause-without
returns-clause-without c = rw (← c.self.view_is) (same_lists _ _ refl c.remove.ensures.without)

pub returns-clause-arc : goal.returns-clause-arc
returns-clause-arc c =
    let old : Net = record { nodes = keys_of c.self.inside.nodes; arcs = c.self.inside.arcs } in
    rw (← c.self.view_is) (λ a b. ap (lookup ends_cmp (a, b)) c.remove.ensures.without ∙ arc_without c.args.from c.args.to old c.self.invariant.arcs_rise a b)
