-- The edits of what was touched, read off a network and what replaces it. Own.
use Rattle.std.specs.Prelude.{ℕ, Bool, not, ◌&&◌, List, ◌++◌, Option, is_some, filter, map, option_map}
use Rattle.std.specs.List.{filter_map}
use Rattle.fm_records.specs.Options.{when, and_then}
use Rattle.fm_net.specs.declared.node.Node.{Node}
use Rattle.fm_net.specs.declared.edit.Edit.{Edit}
use Rattle.fm_net.specs.declared.edit.Edit.TheVariants.{DropArc, DropNode, PutNode}
use Rattle.fm_net.specs.Net.{Net, has_node}
use Rattle.fm_net.specs.Edits.{joins, has_arc}
use Rattle.fm_net.specs.Touched.{put_at}

module _ (net : Net) (node : Node → Bool) (arc : Node → Node → Option (ℕ × ℕ)) where
  abbrev pub arcs_that_go : List (Node × Node) → List Edit
  arcs_that_go ps = map (λ e. DropArc e.0 e.1) (filter (λ e. joins net e && not (is_some (arc e.0 e.1))) ps)

  abbrev pub nodes_that_go : List Node → List Edit
  nodes_that_go ns = map DropNode (filter (λ x. has_node net x && not (node x)) ns)

  abbrev pub nodes_that_come : List Node → List Edit
  nodes_that_come ns = map PutNode (filter (λ x. node x && not (has_node net x)) ns)

  abbrev pub arcs_that_come : List (Node × Node) → List Edit
  arcs_that_come ps = filter_map (λ e. option_map (put_at e) (and_then (λ v. when (not (has_arc net (e, v))) v) (arc e.0 e.1))) ps

  abbrev pub edits_of : List Node → List (Node × Node) → List Edit
  edits_of ns ps = arcs_that_go ps ++ (nodes_that_go ns ++ (nodes_that_come ns ++ arcs_that_come ps))
