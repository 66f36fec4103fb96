-- The test of equal networks decides equality.
use Rattle.std.specs.Prelude.{◌≡◌, ℕ, ◌&&◌, nat_eq, refl}
use Rattle.std.specs.Bool.{Decides}
use Rattle.std.specs.Cmp.{IsPartialEquivalence, unsigned_Decides}
use Rattle.std.specs.Cmp.Lexicographic.{pointwise}
use Rattle.std.proofs.Common.{ap}
use Rattle.std.proofs.lemmas.Bool.Decides.{Decides-and}
use Rattle.std.proofs.lemmas.Slice.Eq.{slice_eq-Decides}
use Rattle.fm_records.specs.laws.RecordEqualityLaws.{apart, pair_Decides, equivalence}
use Rattle.fm_net.specs.declared.node.Node.{Node}
use Rattle.fm_net.specs.declared.node.Node.TheVariants.{Sink, Unscheduled, Request, Machine, Task}
use Rattle.fm_net.specs.Nodes.{number}
use Rattle.fm_net.specs.Net.{Net}
use Rattle.fm_net.specs.NetworkEquality.{same_node, same_ends, same_arc, same_net}

pub node_Decides : (a b : Node) → Decides (same_node a b) (a ≡ b)
node_Decides Sink Sink = (λ _. refl, λ _. refl)
node_Decides Sink _ = (λ h. apart h, λ e. absurd (cc))
node_Decides (Unscheduled x) (Unscheduled y) = (λ h. ap Unscheduled ((unsigned_Decides x y).0 h), λ e. (unsigned_Decides x y).1 (ap number e))
node_Decides (Unscheduled x) _ = (λ h. apart h, λ e. absurd (cc))
node_Decides (Request x) (Request y) = (λ h. ap Request ((unsigned_Decides x y).0 h), λ e. (unsigned_Decides x y).1 (ap number e))
node_Decides (Request x) _ = (λ h. apart h, λ e. absurd (cc))
node_Decides (Machine x) (Machine y) = (λ h. ap Machine ((unsigned_Decides x y).0 h), λ e. (unsigned_Decides x y).1 (ap number e))
node_Decides (Machine x) _ = (λ h. apart h, λ e. absurd (cc))
node_Decides (Task x) (Task y) = (λ h. ap Task ((unsigned_Decides x y).0 h), λ e. (unsigned_Decides x y).1 (ap number e))
node_Decides (Task x) _ = (λ h. apart h, λ e. absurd (cc))

arc_Decides : (x y : (Node × Node) × (ℕ × ℕ)) → Decides (same_arc x y) (x ≡ y)
arc_Decides x y = pair_Decides same_ends (λ a b. nat_eq a.0 b.0 && nat_eq a.1 b.1) (pair_Decides same_node same_node node_Decides node_Decides) (pair_Decides nat_eq nat_eq unsigned_Decides unsigned_Decides) x y

pub net_Decides : (m n : Net) → Decides (same_net m n) (m ≡ n)
net_Decides m n =
    let both = Decides-and (pointwise same_node m.nodes n.nodes) (pointwise same_arc m.arcs n.arcs)
    (slice_eq-Decides node_Decides m.nodes n.nodes _ refl) (slice_eq-Decides arc_Decides m.arcs n.arcs _ refl) in
    (λ h. let p = both.0 h in λ i. record { nodes = p.0 i; arcs = p.1 i }, λ q. both.1 (ap (λ z. z.nodes) q, ap (λ z. z.arcs) q))

pub net_equivalence : IsPartialEquivalence same_net
net_equivalence = equivalence same_net net_Decides
