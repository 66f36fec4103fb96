-- Comparing nodes and then arcs tells whether two networks are one.
use Rattle.std.proofs.Common.{◌≡◌, ◌↔◌, ◌&&◌, ◌∙◌, sym, ap, refl, Bool, true, false, List, [], ◌∷◌, IsTrue}
use Rattle.std.specs.Cmp.Lexicographic.{pointwise}
use Rattle.std.specs.Map.{keys_of}
use Rattle.fm_net.specs.declared.node.Node.{Node}
use Rattle.fm_net.specs.Net.{Net}
use Rattle.fm_net.specs.NetworkEquality.{same_node, same_arc, same_net}
use Rattle.fm_net.specs.laws.NetworkEqualityLaws.{net_Decides}

-- pairs of nothing but a key are the same if the keys are
and_true : (b : Bool) → (b && true) ≡ b
and_true true = refl
and_true false = refl

pub same_keys : (xs ys : List (Node × Unit {0})) → pointwise (λ p q. same_node p.0 q.0 && true) xs ys ≡ pointwise same_node (keys_of xs) (keys_of ys)
same_keys [] [] = refl
same_keys [] (y ∷ ys) = refl
same_keys (x ∷ xs) [] = refl
same_keys (x ∷ xs) (y ∷ ys) = let rest = same_keys xs ys in rw (and_true (same_node x.0 y.0), rest) refl

-- the nodes are the same, and b says whether the arcs are
pub same_nodes : (m n : Net) (b : Bool) → pointwise same_node m.nodes n.nodes ≡ true → b ≡ pointwise same_arc m.arcs n.arcs → b ≡ same_net m n
same_nodes m n b nodes arcs = arcs ∙ sym (ap (λ a. a && pointwise same_arc m.arcs n.arcs) nodes)

-- the nodes are not the same
pub other_nodes : (m n : Net) (b : Bool) → pointwise same_node m.nodes n.nodes ≡ false → b ≡ false → b ≡ same_net m n
other_nodes m n b nodes isnt = isnt ∙ sym (ap (λ a. a && pointwise same_arc m.arcs n.arcs) nodes)

pub exact : (m n : Net) (b : Bool) → b ≡ same_net m n → IsTrue b ↔ (m ≡ n)
exact m n b value = (λ h. (net_Decides m n).0 (sym value ∙ h), λ is. value ∙ (net_Decides m n).1 is)
