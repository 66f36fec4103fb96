-- The ends of an arc.
use Rattle.std.specs.Prelude.{Bool, ◌||◌}
use Rattle.fm_net.specs.declared.node.Node.{Node}
use Rattle.fm_net.specs.NetworkEquality.{same_node}

-- whether a node is one of two
abbrev pub is_end : Node → Node × Node → Bool
is_end n e = same_node e.0 n || same_node e.1 n
