-- The edits that are found among the nodes and pairs of ends that were touched (this project's profile).
use Rattle.std.specs.Prelude.{◌≡◌, ℕ, Bool, false, not, ◌&&◌, List, ◌++◌, Option, filter, map, option_map}
use Rattle.std.specs.List.{list_any, filter_map}
use Rattle.std.specs.Ordering.{is_eq}
use Rattle.std.specs.declared.cmp.Ordering.{Ordering}
use Rattle.fm_lattice.specs.Maps.{lookup}
use Rattle.fm_records.specs.Options.{when, and_then}
use Rattle.fm_records.specs.Rising.{Rises}
use Rattle.fm_net.specs.declared.node.Node.{Node}
use Rattle.fm_net.specs.Nodes.{node_cmp, ends_cmp}
use Rattle.fm_net.specs.Net.{Net, has_node}
use Rattle.fm_net.specs.declared.edit.Edit.{Edit}
use Rattle.fm_net.specs.declared.edit.Edit.TheVariants.{DropArc, DropNode, PutNode, PutArc}
use Rattle.fm_net.specs.Edits.{joins, has_arc}

-- whether the key is in the list
abbrev pub is_among : {K : Type 0} → (K → K → Ordering) → List K → K → Bool
is_among cmp ks k = list_any (λ x. is_eq (cmp k x)) ks

-- the lists rise, and each node and each pair of ends that is not among them is there, or is joined, in both networks
-- or in neither
pub record Touches (n m : Net) (nodes : List Node) (pairs : List (Node × Node)) : Type 0 where
  pub nodes_rise : Rises node_cmp nodes
  pub pairs_rise : Rises ends_cmp pairs
  pub each_node : (x : Node) → is_among node_cmp nodes x ≡ false → has_node m x ≡ has_node n x
  pub each_pair : (e : Node × Node) → is_among ends_cmp pairs e ≡ false → lookup ends_cmp e m.arcs ≡ lookup ends_cmp e n.arcs

-- whether an arc goes, and which one comes, between the ends of a touched pair
abbrev pub gone_pair : Net → Net → Node × Node → Bool
gone_pair n m e = joins n e && not (joins m e)

abbrev pub put_pair : Net → Net → Node × Node → Option (ℕ × ℕ)
put_pair n m e = and_then (λ v. when (not (has_arc n (e, v))) v) (lookup ends_cmp e m.arcs)

abbrev pub put_at : Node × Node → ℕ × ℕ → Edit
put_at e v = PutArc e.0 e.1 v.0 v.1

-- the edits of what was touched: arcs that go, nodes that go, nodes that come, arcs that come or differ
abbrev pub touched_change : Net → Net → List Node → List (Node × Node) → List Edit
touched_change n m nodes pairs =
    map (λ e. DropArc e.0 e.1) (filter (gone_pair n m) pairs)
    ++ (map DropNode (filter (λ x. has_node n x && not (has_node m x)) nodes)
    ++ (map PutNode (filter (λ x. has_node m x && not (has_node n x)) nodes)
    ++ filter_map (λ e. option_map (put_at e) (put_pair n m e)) pairs))
