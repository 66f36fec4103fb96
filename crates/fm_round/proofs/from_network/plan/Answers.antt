use Rattle.std.proofs.Common.{◌≡◌, ◌∙◌, ℕ, sym, ap, subst}
use Rattle.std.specs.Prelude.{filter}
use Rattle.fm_net.specs.declared.node.Node.{Node}
use Rattle.fm_net.specs.Nodes.{ends_cmp}
use Rattle.fm_net.specs.laws.NodeOrder.{ends_total, ends_exact}
use Rattle.fm_net.proofs.KeptLists.{rising_kept}
use Rattle.fm_certificate.specs.Flows.{units_in}
use Rattle.fm_round.specs.PlanOfFlow.{units_over, plan_of_flow}
use Rattle.fm_round.specs.inner.PlanArcs.{is_asked}
use Rattle.fm_round.proofs.Asked.{same_plan}
use Rattle.fm_round.proofs.Over.{rising_over}
use Rattle.fm_round.proofs.Results.{if_ok}
use Rattle.fm_round.proofs.from_network.plan.Goals as goal

pub plan_of-requires : goal.plan_of-requires
plan_of-requires c =
    let network = c.args.network.now in
    let sent = units_in c.args.flow.now in
    rw (c.deref.ensures.value ∙ c.in_ok-units.ensures)
    (rising_kept ends_cmp ends_total ends_exact (is_asked network) (units_over network sent)
    (rising_over ends_cmp (λ (a : (Node × Node) × (ℕ × ℕ)). sent a.0.0 a.0.1) network.arcs c.known.ensures.arcs_rise))

pub returns : goal.returns
returns c =
    let k = c.args.knowledge.now in
    let sent = units_in c.args.flow.now in
    let asked = ap (λ f. plan_of_flow f k) (c.deref.ensures.value ∙ c.in_ok-units.ensures) in
    let same = subst (λ n. plan_of_flow (filter (is_asked n) (units_over n sent)) k ≡ plan_of_flow (units_over n sent) k) (sym c.requires.network) (same_plan k sent) in
    if_ok (λ plan is. is ∙ asked ∙ same) c.plan_of.result c.plan_of.ensures
