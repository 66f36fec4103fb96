-- What a walk over arcs gives.
use Rattle.std.specs.Prelude.{ℕ}
use Rattle.fm_net.specs.declared.node.Node.{Node}

-- the ends, and the capacity and cost, of what the walk gives
abbrev pub arc_entry : Node × Node × ℕ × ℕ → (Node × Node) × (ℕ × ℕ)
arc_entry a = ((a.0, a.1), (a.2, a.3))
