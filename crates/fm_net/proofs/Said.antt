-- What the pairs in cells come to after a change, in the words of a network.
use Rattle.std.proofs.Common.{◌≡◌, ◌∙◌, ap, sym, refl, ℕ, Bool, true, false, cond, not, ◌||◌, ◌&&◌, List, [], ◌∷◌, Some, None, is_some}
use Rattle.std.specs.BTreeMap.{is_at}
use Rattle.std.specs.List.{list_any}
use Rattle.std.specs.Map.{keys_of, remove_entry}
use Rattle.std.specs.Ordering.{is_eq}
use Rattle.std.specs.Cmp.{IsTotalOrder}
use Rattle.std.specs.declared.cmp.Ordering.{Ordering}
use Rattle.std.proofs.lemmas.Cmp.{tied_back}
use Rattle.fm_lattice.specs.Chains.{by_order}
use Rattle.fm_lattice.specs.laws.ChainLaws.{by_cases, less_greater, greater_less}
use Rattle.fm_lattice.specs.Maps.{lookup, put, keep_new, IsRising}
use Rattle.fm_records.specs.Sets.{insert_once}
use Rattle.fm_records.specs.Rising.{Rises}
use Rattle.fm_net.specs.declared.node.Node.{Node}
use Rattle.fm_net.specs.Nodes.{node_cmp, ends_cmp}
use Rattle.fm_net.specs.laws.NodeOrder.{node_exact, node_total, ends_total}
use Rattle.fm_net.specs.Net.{Net, has_node, arc_at, with_node, without_node, with_arc, without_arc, remove_node, are_ends}
use Rattle.fm_net.proofs.KeptLists.{has_inserted}
use Rattle.fm_records.proofs.TableLaws.{rises_insert}
use Rattle.fm_net.proofs.EditLaws.{at_put, at_removed, stands_removed, rises_removed}

-- networks of the same lists are the same
pub same_lists : (m n : Net) → m.nodes ≡ n.nodes → m.arcs ≡ n.arcs → m ≡ n
same_lists m n nodes arcs = λ i. record { nodes = nodes i; arcs = arcs i }

swapped : {K : Type 0} (cmp : K → K → Ordering) (total : IsTotalOrder cmp) (a b : K) → is_eq (cmp a b) ≡ is_eq (cmp b a)
swapped cmp total a b =
    by_cases (cmp a b) (λ o. cmp a b ≡ o → is_eq o ≡ is_eq (cmp b a))
    (λ _ e. sym (ap is_eq (less_greater cmp total a b e)))
    (λ _ e. sym (ap is_eq (tied_back total a b e)))
    (λ _ e. sym (ap is_eq (greater_less cmp total a b e)))
    refl

-- The keys of pairs by node.
module _ {V : Type 0} where
  pub keys_put : (n : Node) (v : V) (es : List (Node × V)) → keys_of (put node_cmp keep_new n v es) ≡ insert_once node_cmp n (keys_of es)
  keys_put n v [] = refl
  keys_put n v (e ∷ es) =
      let rest = keys_put n v es in
      by_cases (node_cmp n e.0) (λ o. keys_of (by_order o ((n, v) ∷ e ∷ es) ((e.0, v) ∷ es) (e ∷ put node_cmp keep_new n v es)) ≡ by_order o (n ∷ e.0 ∷ keys_of es) (e.0 ∷ keys_of es) (e.0 ∷ insert_once node_cmp n (keys_of es)))
      (λ _. refl) (λ _. refl) (λ _. ap (λ ks. e.0 ∷ ks) rest)

  pub keys_removed : (n : Node) (es : List (Node × V)) → keys_of (remove_entry (is_at (node_cmp n)) es) ≡ remove_node n (keys_of es)
  keys_removed n [] = refl
  keys_removed n (e ∷ es) =
      let rest = keys_removed n es in
      elim (is_eq (node_cmp n e.0)) as (λ b. keys_of (cond b es (e ∷ remove_entry (is_at (node_cmp n)) es)) ≡ cond b (keys_of es) (e.0 ∷ remove_node n (keys_of es))) [ true ↦ refl | false ↦ ap (λ ks. e.0 ∷ ks) rest ]

  pub found_key : (n : Node) (es : List (Node × V)) → is_some (lookup node_cmp n es) ≡ list_any (λ m. is_eq (node_cmp n m)) (keys_of es)
  found_key n [] = refl
  found_key n (e ∷ es) =
      let rest = found_key n es in
      elim (is_eq (node_cmp n e.0)) as (λ b. is_some (cond b (Some e.1) (lookup node_cmp n es)) ≡ (b || list_any (λ m. is_eq (node_cmp n m)) (keys_of es))) [ true ↦ refl | false ↦ rest ]

or_is : (b c : Bool) → (b || c) ≡ cond b true c
or_is true c = refl
or_is false c = refl

and_is : (b c : Bool) → (not b && c) ≡ cond b false c
and_is true c = refl
and_is false c = refl

-- What stands after a change, and that it rises.

pub has_with : (n : Node) (net : Net) (q : Node) → has_node (with_node n net) q ≡ cond (is_eq (node_cmp n q)) true (has_node net q)
has_with n net q =
    has_inserted node_cmp node_total node_exact n q net.nodes
    ∙ or_is (is_eq (node_cmp q n)) (has_node net q)
    ∙ ap (λ b. cond b true (has_node net q)) (swapped node_cmp node_total q n)

pub has_without : (n : Node) (net : Net) → Rises node_cmp net.nodes → (q : Node) → has_node (without_node n net) q ≡ cond (is_eq (node_cmp n q)) false (has_node net q)
has_without n net r q =
    stands_removed n q net.nodes r
    ∙ and_is (is_eq (node_cmp q n)) (has_node net q)
    ∙ ap (λ b. cond b false (has_node net q)) (swapped node_cmp node_total q n)

pub rises_with : (n : Node) (net : Net) → Rises node_cmp net.nodes → Rises node_cmp (with_node n net).nodes
rises_with n net r = rises_insert node_cmp node_total node_exact n net.nodes r

pub rises_without : (n : Node) (net : Net) → Rises node_cmp net.nodes → Rises node_cmp (without_node n net).nodes
rises_without n net r = rises_removed n net.nodes r

pub arc_with : (from to : Node) (arc : ℕ × ℕ) (net : Net) → IsRising ends_cmp net.arcs → (a b : Node) → arc_at (with_arc from to arc net) a b ≡ cond (are_ends from to a b) (Some arc) (arc_at net a b)
arc_with from to arc net r a b =
    at_put (from, to) (a, b) arc net.arcs r
    ∙ ap (λ c. cond c (Some arc) (arc_at net a b)) (swapped ends_cmp ends_total (a, b) (from, to))

pub arc_without : (from to : Node) (net : Net) → IsRising ends_cmp net.arcs → (a b : Node) → arc_at (without_arc from to net) a b ≡ cond (are_ends from to a b) None (arc_at net a b)
arc_without from to net r a b =
    at_removed (from, to) (a, b) net.arcs r
    ∙ ap (λ c. cond c None (arc_at net a b)) (swapped ends_cmp ends_total (a, b) (from, to))

pub not_not : (b : Bool) → b ≡ not (not b)
not_not true = refl
not_not false = refl
