-- Steps towards the network of a table: nothing is put that is not the table's, and nothing is taken away.
use Rattle.std.specs.Prelude.{◌≤◌, ℕ, IsTrue}
use Rattle.fm_records.specs.declared.ops.TheConstants.{MOST_BANDWIDTH, MOST_PRICE}
use Rattle.fm_records.specs.Table.{Table}
use Rattle.fm_net.specs.declared.node.Node.{Node}
use Rattle.fm_net.specs.Net.{IsArcKind}
use Rattle.fm_net.specs.Network.{is_node}

-- an arc of the table's network joins two of its nodes, of kinds that an arc may join, and has a capacity and a cost that an arc
-- may have
pub record MayHaveArc (k : Table) (a b : Node) (arc : ℕ × ℕ) : Type 0 where
  pub from : IsTrue (is_node k a)
  pub to : IsTrue (is_node k b)
  pub kinds : IsArcKind a b
  pub capacity : 1 ≤ arc.0
  pub cost : arc.1 ≤ MOST_PRICE

-- the capacity and the cost of a place
abbrev pub IsWithinArcs : ℕ × ℕ → Type 0
IsWithinArcs arc = (1 ≤ arc.0) × (arc.1 ≤ MOST_BANDWIDTH)
