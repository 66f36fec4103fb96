use Rattle.std.proofs.Common.{◌≡◌, ◌∙◌, ◌+◌, ◌-◌, ap, sym, subst, arith, ℕ, List}
use Rattle.fm_lattice.specs.Maps.{IsRising, keep_new}
use Rattle.fm_lattice.specs.laws.MapLaws.{rising_put}
use Rattle.fm_net.specs.declared.node.Node.{Node}
use Rattle.fm_net.specs.Nodes.{node_cmp}
use Rattle.fm_net.specs.laws.NodeOrder.{node_exact, node_total}
use Rattle.fm_certificate.specs.Totals.{total_in}
use Rattle.fm_certificate.proofs.Totalled.{IsSet, changed, set_put}
use Rattle.fm_certificate.proofs.inflow.change.Goals as goal

pub returns-clause-rises : goal.returns-clause-rises
returns-clause-rises c =
    let total = c.total_of.result - c.from.result + c.from-2.result in
    subst (IsRising node_cmp) (sym c.set_within.ensures.items) (rising_put node_cmp node_total node_exact keep_new c.args.node total c.args.totals.now.items c.requires.rising)

pub returns-clause-totals : goal.returns-clause-totals
returns-clause-totals c =
    let old = c.args.totals.now.items in
    let total = c.total_of.result - c.from.result + c.from-2.result in
    let set : IsSet old c.set_within.new.pairs.items c.args.node total = subst (λ (xs : List (Node × ℕ)). IsSet old xs c.args.node total) (sym c.set_within.ensures.items) (set_put old c.args.node total c.requires.rising) in
    let before : c.total_of.result ≡ total_in old c.args.node = c.total_of.ensures ∙ ap (λ (xs : List (Node × ℕ)). total_in xs c.args.node) c.deref.ensures.value in
    changed old c.set_within.new.pairs.items c.args.node c.args.old c.args.new total set c.requires.part (omega (arith, before, c.from.ensures, c.from-2.ensures))
