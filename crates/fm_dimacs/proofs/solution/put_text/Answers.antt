use Rattle.std.proofs.Common.{ℕ, List, [], refl}
use Rattle.std.specs.List.{flat_map}
use Rattle.fm_certificate.specs.Flows.{units_in}
use Rattle.fm_dimacs.specs.Solution.{cost_line, flow_line}
use Rattle.fm_dimacs.proofs.Sent.{appends_nothing, sent_last, stopped_later}
use Rattle.fm_dimacs.proofs.solution.put_text.Goals as goal

pub returns-in_err-put_cost : goal.returns-in_err-put_cost
returns-in_err-put_cost g c =
    let units : List ℕ = flat_map (flow_line c.args.nodes.now (units_in c.args.flow.now)) c.args.network.now.arcs in
    rw (← c.cost-total.ensures) (stopped_later _ _ _ _ _ _ _ _ _ ([]) (cost_line c.cost-total.result) units c.from_residual.ensures.1 refl (appends_nothing _) refl c.in_err-put_cost.ensures)

pub returns : goal.returns
returns g c =
    let units : List ℕ = flat_map (flow_line c.args.nodes.now (units_in c.args.flow.now)) c.args.network.now.arcs in
    rw (← c.cost-total.ensures) (sent_last c.put_flow.result _ _ _ _ _ _ (cost_line c.cost-total.result) units c.in_ok-put_cost.ensures.0 c.in_ok-put_cost.ensures.1 c.put_flow.ensures)
