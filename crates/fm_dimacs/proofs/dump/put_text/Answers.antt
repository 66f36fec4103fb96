use Rattle.std.proofs.Common.{◌≡◌, ◌++◌, ◌∙◌, ℕ, List, [], append_assoc, length, count_by, refl, sym, subst}
use Rattle.std.specs.List.{flat_map}
use Rattle.fm_dimacs.specs.Sending.{IsSent}
use Rattle.fm_dimacs.specs.Text.{node_line, problem_line, is_task_node, demand_line, supply_line, arc_line, lines_from}
use Rattle.fm_dimacs.proofs.Sent.{appends_nothing, appends_more, sent_last, stopped_later}
use Rattle.fm_dimacs.proofs.dump.put_text.Goals as goal

pub returns-in_err-put_nodes : goal.returns-in_err-put_nodes
returns-in_err-put_nodes g c =
    let nodes = c.args.nodes.now in
    let arcs = c.args.network.now.arcs in
    let comments : List ℕ = lines_from node_line 1 nodes in
    stopped_later _ _ _ _ _ _ _ _ _ ([]) comments (problem_line (length nodes) (length arcs) ++ (demand_line (count_by is_task_node nodes) ++ (lines_from supply_line 1 nodes ++ (flat_map (arc_line nodes) arcs)))) c.from_residual.ensures.1 (refl) (appends_nothing _) (refl) c.in_err-put_nodes.ensures

pub returns-in_err-put_problem : goal.returns-in_err-put_problem
returns-in_err-put_problem g c =
    let nodes = c.args.nodes.now in
    let arcs = c.args.network.now.arcs in
    let comments : List ℕ = lines_from node_line 1 nodes in
    let problem : List ℕ = problem_line (length nodes) (length arcs) in
    stopped_later _ _ _ _ _ _ _ _ _ (comments) problem (demand_line (count_by is_task_node nodes) ++
    (lines_from supply_line 1 nodes ++ (flat_map (arc_line nodes) arcs))) c.from_residual-in_err-put_problem.ensures.1
    (refl) (c.in_ok-put_nodes.ensures.0) (c.in_ok-put_nodes.ensures.1) c.in_err-put_problem.ensures

pub returns-in_err-put_demand : goal.returns-in_err-put_demand
returns-in_err-put_demand g c =
    let nodes = c.args.nodes.now in
    let arcs = c.args.network.now.arcs in
    let comments : List ℕ = lines_from node_line 1 nodes in
    let problem : List ℕ = problem_line (length nodes) (length arcs) in
    let demand : List ℕ = demand_line (count_by is_task_node nodes) in
    stopped_later _ _ _ _ _ _ _ _ _ (comments ++ problem) demand (lines_from supply_line 1 nodes ++
    (flat_map (arc_line nodes) arcs)) c.from_residual-in_err-put_demand.ensures.1 (sym (append_assoc comments problem _))
    (appends_more _ _ _ comments problem c.in_ok-put_nodes.ensures.0 c.in_ok-put_problem.ensures.0)
    (c.in_ok-put_problem.ensures.1 ∙ c.in_ok-put_nodes.ensures.1) c.in_err-put_demand.ensures

pub returns-in_err-put_supplies : goal.returns-in_err-put_supplies
returns-in_err-put_supplies g c =
    let nodes = c.args.nodes.now in
    let arcs = c.args.network.now.arcs in
    let comments : List ℕ = lines_from node_line 1 nodes in
    let problem : List ℕ = problem_line (length nodes) (length arcs) in
    let demand : List ℕ = demand_line (count_by is_task_node nodes) in
    let supplies : List ℕ = lines_from supply_line 1 nodes in
    stopped_later _ _ _ _ _ _ _ _ _ ((comments ++ problem) ++ demand) supplies (flat_map (arc_line nodes) arcs)
    c.from_residual-in_err-put_supplies.ensures.1 (simp append_assoc)
    (appends_more _ _ _ (comments ++ problem) demand (appends_more _ _ _ comments problem c.in_ok-put_nodes.ensures.0
    c.in_ok-put_problem.ensures.0) c.in_ok-put_demand.ensures.0)
    (c.in_ok-put_demand.ensures.1 ∙ c.in_ok-put_problem.ensures.1 ∙ c.in_ok-put_nodes.ensures.1)
    c.in_err-put_supplies.ensures

pub returns : goal.returns
returns g c =
    let nodes = c.args.nodes.now in
    let arcs = c.args.network.now.arcs in
    let comments : List ℕ = lines_from node_line 1 nodes in
    let problem : List ℕ = problem_line (length nodes) (length arcs) in
    let demand : List ℕ = demand_line (count_by is_task_node nodes) in
    let supplies : List ℕ = lines_from supply_line 1 nodes in
    let last : List ℕ = flat_map (arc_line nodes) arcs in
    let whole : (((comments ++ problem) ++ demand) ++ supplies) ++ last ≡ comments ++ (problem ++ (demand ++ (supplies ++ last))) = simp append_assoc in
    subst (λ (text : List ℕ). IsSent c.put_arcs.result (g.W.Out.written c.args.out.now) (g.W.Out.written c.put_arcs.new.out) (g.W.Out.has_failed c.args.out.now) (g.W.Out.has_failed c.put_arcs.new.out) text) whole
    (sent_last c.put_arcs.result _ _ _ _ _ _ (((comments ++ problem) ++ demand) ++ supplies) last
    (appends_more _ _ _ ((comments ++ problem) ++ demand) supplies
    (appends_more _ _ _ (comments ++ problem) demand (appends_more _ _ _ comments problem c.in_ok-put_nodes.ensures.0
    c.in_ok-put_problem.ensures.0) c.in_ok-put_demand.ensures.0) c.in_ok-put_supplies.ensures.0)
    (c.in_ok-put_supplies.ensures.1 ∙ c.in_ok-put_demand.ensures.1 ∙ c.in_ok-put_problem.ensures.1 ∙
    c.in_ok-put_nodes.ensures.1) c.put_arcs.ensures)
