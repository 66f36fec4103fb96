-- Equality of networks: the code's answer is that their nodes and arcs are the same.
use Rattle.std.specs.Prelude.{ℕ, Bool, nat_eq}
use Rattle.std.specs.Cmp.Lexicographic.{pointwise}
use Rattle.std.specs.Ordering.{on, eq_of_both}
use Rattle.fm_net.specs.contracts.node.NodePartialEq.TheImpl as node_eq
use Rattle.fm_net.specs.declared.node.Node.{Node}
use Rattle.fm_net.specs.Net.{Net}

-- whether two nodes are one, as `Node` derives it
abbrev pub same_node : Node → Node → Bool
same_node = (node_eq.ghosts).eq

abbrev pub same_ends : Node × Node → Node × Node → Bool
same_ends = eq_of_both (on (λ e. e.0) same_node) (on (λ e. e.1) same_node)

abbrev pub same_arc : (Node × Node) × (ℕ × ℕ) → (Node × Node) × (ℕ × ℕ) → Bool
same_arc = eq_of_both (on (λ a. a.0) same_ends) (on (λ a. a.1) (eq_of_both (on (λ v. v.0) nat_eq) (on (λ v. v.1) nat_eq)))

-- whether two networks have the same nodes and arcs
abbrev pub same_net : Net → Net → Bool
same_net = eq_of_both (on (λ n. n.nodes) (pointwise same_node)) (on (λ n. n.arcs) (pointwise same_arc))
