-- The text of a flow: the lines of a solution in the DIMACS format for minimum-cost flows, with the IDs of the
-- network's text.
use Rattle.std.specs.Prelude.{ℕ, cond, ◌==◌, List, [], ◌++◌, codes, decimal}
use Rattle.std.specs.List.{flat_map}
use Rattle.fm_net.specs.declared.node.Node.{Node}
use Rattle.fm_net.specs.Net.{Net}
use Rattle.fm_certificate.specs.Flows.{Units, cost_of}
use Rattle.fm_dimacs.specs.Text.{id_in}

-- what the flow costs
abbrev pub cost_line : ℕ → List ℕ
cost_line cost = codes "s " ++ (decimal cost ++ codes "\n")

-- the units between two nodes: the nodes' IDs and the units; no line if there are none
abbrev pub units_line : List Node → Node → Node → ℕ → List ℕ
units_line nodes from to units = cond (units == 0) [] (codes "f " ++ (decimal (id_in nodes from) ++ (codes " " ++ (decimal (id_in nodes to) ++ (codes " " ++ (decimal units ++ codes "\n"))))))

abbrev pub flow_line : List Node → Units → (Node × Node) × (ℕ × ℕ) → List ℕ
flow_line nodes units arc = units_line nodes arc.0.0 arc.0.1 (units arc.0.0 arc.0.1)

-- the text: what the flow costs, and the units of each arc that has any
abbrev pub solution_text : Net → Units → List ℕ
solution_text net units = cost_line (cost_of net units) ++ flat_map (flow_line net.nodes units) net.arcs
