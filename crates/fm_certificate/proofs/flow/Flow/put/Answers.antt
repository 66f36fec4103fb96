use Rattle.std.specs.Prelude.{unwrap_or}
use Rattle.std.proofs.Common.{◌≡◌, ◌∙◌, ap, arith, ◌+◌, ◌*◌, ◌^◌, ◌≤◌, cond, length}
use Rattle.fm_lattice.specs.Maps.{lookup}
use Rattle.fm_net.specs.declared.node.Node.{Node}
use Rattle.fm_net.specs.Nodes.{ends_cmp}
use Rattle.fm_net.specs.laws.NodeOrder.{ends_exact}
use Rattle.fm_net.specs.NetworkEquality.{same_node}
use Rattle.fm_certificate.specs.Totals.{target, units_at, total_in}
use Rattle.fm_certificate.proofs.Units.{units_on, units_bound, flow_put, part_of, or_zero}
use Rattle.fm_certificate.proofs.flow.Flow.put.Goals as goal

pub insert-requires-clause-exact : goal.insert-requires-clause-exact
insert-requires-clause-exact c = ends_exact

pub change-requires-clause-part : goal.change-requires-clause-part
change-requires-clause-part c =
    let was : c.unwrap_or-old.result ≡ units_on (c.args.from, c.args.to) c.self.inside.units.items = c.unwrap_or-old.ensures ∙ ap (λ o. unwrap_or o 0) c.in_ok-insert.ensures.old ∙ or_zero (lookup ends_cmp (c.args.from, c.args.to) c.self.inside.units.items) in
    part_of c.self.inside.units.items (c.args.from, c.args.to) c.unwrap_or-old.result c.make_room.new.totals.items target was (c.in_ok-make_room.ensures.same c.args.to ∙ c.self.invariant.enters c.args.to)

pub change-requires-clause-fits : goal.change-requires-clause-fits
change-requires-clause-fits c =
    let bound : units_at target c.self.inside.units.items c.args.to ≤ 2 ^ 64 * length c.self.inside.units.items = units_bound target c.args.to c.self.inside.units.items c.self.invariant.fits in
    omega (arith, c.in_ok-make_room.ensures.same c.args.to, c.self.invariant.enters c.args.to, c.self.inside.units.small, c.self.inside.units.ok.0, c.self.inside.units.ok.1)

pub invariant_of-self-2 : goal.invariant_of-self-2
invariant_of-self-2 c =
    let old = c.self.inside.units.items in
    let was : c.unwrap_or-old.result ≡ units_on (c.args.from, c.args.to) old = c.unwrap_or-old.ensures ∙ ap (λ o. unwrap_or o 0) c.in_ok-insert.ensures.old ∙ or_zero (lookup ends_cmp (c.args.from, c.args.to) c.self.inside.units.items) in
    let came : (n : Node) → total_in c.change.new.totals.items n + cond (same_node c.args.to n) c.unwrap_or-old.result 0 ≡
    total_in c.self.inside.entering.items n + cond (same_node c.args.to n) c.args.units 0 = λ n. c.change.ensures.totals n ∙ ap
    (λ t. t + cond (same_node c.args.to n) c.args.units 0) (c.in_ok-make_room.ensures.same n) in
    rw (c.in_ok-insert.ensures.ok)
    (flow_put old c.self.inside.entering.items c.change.new.totals.items (c.args.from, c.args.to) c.args.units c.unwrap_or-old.result c.self.invariant c.change.ensures.rises (omega arith) was came)

pub returns-clause-ok : goal.returns-clause-ok
returns-clause-ok c = rw (← c.self.view_is) c.in_ok-insert.ensures.ok
