-- Potentials that show a flow to be least: complementary slackness. Textbook.
use Rattle.std.specs.Prelude.{◌≡◌, ℕ, ℤ, ◌<◌, ◌≤◌, ◌^◌, pos, List, Some, ◌+ℤ◌, ◌-ℤ◌, ◌≤ℤ◌}
use Rattle.std.specs.Map.{keys_of}
use Rattle.std.specs.Int.RustNames.{unsigned_abs}
use Rattle.fm_lattice.specs.Maps.{lookup}
use Rattle.fm_records.specs.Options.{or_else}
use Rattle.fm_net.specs.declared.node.Node.{Node}
use Rattle.fm_net.specs.Nodes.{node_cmp}
use Rattle.fm_net.specs.Net.{Net, arc_at}
use Rattle.fm_certificate.specs.Flows.{Units, units_in, IsFeasible}

-- the potential that a map gives a node; 0 if it has none
abbrev pub potential_in : List (Node × ℤ) → Node → ℤ
potential_in potentials n = or_else (pos 0) (lookup node_cmp n potentials)

-- what a further unit over an arc costs, with the potentials of its ends
abbrev pub reduced_cost : ℕ → ℤ → ℤ → ℤ
reduced_cost cost from to = pos cost +ℤ from -ℤ to

-- no potential is beyond 2^100 in size
abbrev pub AreSmall : List (Node × ℤ) → Type 0
AreSmall potentials = (n : Node) (potential : ℤ) → lookup node_cmp n potentials ≡ Some potential → unsigned_abs potential ≤ 2 ^ 100

-- the flow is feasible, and the potentials show it to be least
pub record IsCertified (net : Net) (flow : List ((Node × Node) × ℕ)) (potentials : List (Node × ℤ)) : Type 0 where
  pub feasible : IsFeasible net (units_in flow)
  -- the keys are the arcs, and the nodes
  pub arcs : keys_of flow ≡ keys_of net.arcs
  pub nodes : keys_of potentials ≡ net.nodes
  pub small : AreSmall potentials
  -- a further unit saves nothing, and neither does one less
  pub no_gain : (from to : Node) (arc : ℕ × ℕ) → arc_at net from to ≡ Some arc → units_in flow from to < arc.0 → pos 0 ≤ℤ reduced_cost arc.1 (potential_in potentials from) (potential_in potentials to)
  pub no_waste : (from to : Node) (arc : ℕ × ℕ) → arc_at net from to ≡ Some arc → 0 < units_in flow from to → reduced_cost arc.1 (potential_in potentials from) (potential_in potentials to) ≤ℤ pos 0

-- complementary slackness: over each arc a further unit saves nothing if one fits, and neither does one less if there is one
pub record MeetsSlackness (net : Net) (units : Units) (potentials : List (Node × ℤ)) : Type 0 where
  pub no_gain : (from to : Node) (arc : ℕ × ℕ) → arc_at net from to ≡ Some arc → units from to < arc.0 → pos 0 ≤ℤ reduced_cost arc.1 (potential_in potentials from) (potential_in potentials to)
  pub no_waste : (from to : Node) (arc : ℕ × ℕ) → arc_at net from to ≡ Some arc → 0 < units from to → reduced_cost arc.1 (potential_in potentials from) (potential_in potentials to) ≤ℤ pos 0
