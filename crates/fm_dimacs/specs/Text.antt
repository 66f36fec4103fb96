-- The text of a network. The lines are those of the DIMACS format for minimum-cost flows; that there is one text, and
-- the names in comments, are this project's profile.
use Rattle.std.specs.Prelude.{ℕ, Bool, true, false, cond, List, [], ◌∷◌, ◌++◌, ◌+◌, ◌==◌, length, count_by, codes, decimal}
use Rattle.std.specs.List.{flat_map}
use Rattle.std.specs.Ordering.{is_eq}
use Rattle.fm_records.specs.Ids.{id_text}
use Rattle.fm_net.specs.declared.node.Node.{Node}
use Rattle.fm_net.specs.declared.node.Node.TheVariants.{Sink, Unscheduled, Request, Machine, Task}
use Rattle.fm_net.specs.Nodes.{node_cmp}
use Rattle.fm_net.specs.Net.{Net}

-- a node's comment: its ID, its kind and its name
abbrev pub node_line : ℕ → Node → List ℕ
node_line id Sink = codes "c " ++ (decimal id ++ codes " S\n")
node_line id (Unscheduled job) = codes "c " ++ (decimal id ++ (codes " U " ++ (id_text job ++ codes "\n")))
node_line id (Request request) = codes "c " ++ (decimal id ++ (codes " R " ++ (decimal request ++ codes "\n")))
node_line id (Machine machine) = codes "c " ++ (decimal id ++ (codes " M " ++ (id_text machine ++ codes "\n")))
node_line id (Task task) = codes "c " ++ (decimal id ++ (codes " T " ++ (id_text task ++ codes "\n")))

-- the problem line: how many nodes and arcs there are
abbrev pub problem_line : ℕ → ℕ → List ℕ
problem_line nodes arcs = codes "p min " ++ (decimal nodes ++ (codes " " ++ (decimal arcs ++ codes "\n")))

abbrev pub is_task_node : Node → Bool
is_task_node (Task task) = true
is_task_node _ = false

-- the sink takes a unit for each task; there is no line if there is no task
abbrev pub demand_line : ℕ → List ℕ
demand_line tasks = cond (tasks == 0) [] (codes "n 1 -" ++ (decimal tasks ++ codes "\n"))

-- a task gives a unit, and no other node does
abbrev pub supply_line : ℕ → Node → List ℕ
supply_line id (Task task) = codes "n " ++ (decimal id ++ codes " 1\n")
supply_line id _ = []

-- the lines of the nodes, with IDs from this one on
abbrev pub lines_from : (ℕ → Node → List ℕ) → ℕ → List Node → List ℕ
lines_from line id [] = []
lines_from line id (n ∷ ns) = line id n ++ lines_from line (id + 1) ns

-- the node's ID: its place, counted from this one on; 0 if it is not there
abbrev pub id_from : ℕ → List Node → Node → ℕ
id_from id [] n = 0
id_from id (m ∷ ms) n = cond (is_eq (node_cmp m n)) id (id_from (id + 1) ms n)

abbrev pub id_in : List Node → Node → ℕ
id_in = id_from 1

-- an arc: its ends' IDs, the least flow, the capacity and the cost
abbrev pub arc_line : List Node → (Node × Node) × (ℕ × ℕ) → List ℕ
arc_line nodes arc =
    codes "a " ++ (decimal (id_in nodes arc.0.0) ++ (codes " " ++ (decimal (id_in nodes arc.0.1)
    ++ (codes " 0 " ++ (decimal arc.1.0 ++ (codes " " ++ (decimal arc.1.1 ++ codes "\n")))))))

-- the text: comments, problem line, demand, supplies, arcs
abbrev pub dump_text : Net → List ℕ
dump_text net =
    lines_from node_line 1 net.nodes
    ++ (problem_line (length net.nodes) (length net.arcs)
    ++ (demand_line (count_by is_task_node net.nodes)
    ++ (lines_from supply_line 1 net.nodes
    ++ flat_map (arc_line net.nodes) net.arcs)))
