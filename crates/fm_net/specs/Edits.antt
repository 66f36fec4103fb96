-- Edits of networks, and the least list of them that turns one network into another (this project's profile).
use Rattle.std.specs.Prelude.{◌≡◌, ◌≤◌, ℕ, Bool, not, ◌==◌, ◌&&◌, List, [], ◌∷◌, ◌++◌, is_some, filter, map, take, IsTrue}
use Rattle.fm_lattice.specs.Maps.{lookup}
use Rattle.fm_records.specs.declared.ops.TheConstants.{MOST_PRICE}
use Rattle.fm_records.specs.Options.{passes}
use Rattle.fm_net.specs.declared.node.Node.{Node}
use Rattle.fm_net.specs.declared.node.Node.TheVariants.{Sink}
use Rattle.fm_net.specs.Nodes.{ends_cmp, IsRequestInRange}
use Rattle.fm_net.specs.Net.{Net, has_node, IsTouched, IsArcKind, with_node, without_node, with_arc, without_arc}
use Rattle.fm_net.specs.declared.edit.Edit.{Edit}
use Rattle.fm_net.specs.declared.edit.Edit.TheVariants.{DropArc, DropNode, PutNode, PutArc}

abbrev pub Arc : Type 0
Arc = (Node × Node) × (ℕ × ℕ)

-- the network after an edit
abbrev pub after_edit : Edit → Net → Net
after_edit (DropArc from to) net = without_arc from to net
after_edit (DropNode n) net = without_node n net
after_edit (PutNode n) net = with_node n net
after_edit (PutArc from to capacity cost) net = with_arc from to (capacity, cost) net

-- the network after the edits, one after another
abbrev pub after_edits : List Edit → Net → Net
after_edits [] net = net
after_edits (e ∷ es) net = after_edits es (after_edit e net)

-- what the caller must ensure for an arc
pub record MayPutArc (net : Net) (from to : Node) (capacity cost : ℕ) : Type 0 where
  pub from_stands : IsTrue (has_node net from)
  pub to_stands : IsTrue (has_node net to)
  pub kinds : IsArcKind from to
  pub capacity_above : 1 ≤ capacity
  pub cost_within : cost ≤ MOST_PRICE

-- what the caller of the edit's call must ensure
abbrev pub MayEdit : Net → Edit → Type 0
MayEdit net (DropArc from to) = Unit {0}
MayEdit net (DropNode n) = (¬ (n ≡ Sink)) × (¬ IsTouched net n)
MayEdit net (PutNode n) = IsRequestInRange n
MayEdit net (PutArc from to capacity cost) = MayPutArc net from to capacity cost

-- and so for each edit, on what the earlier ones left
abbrev pub MayEditAll : Net → List Edit → Type 0
MayEditAll net [] = Unit {0}
MayEditAll net (e ∷ es) = MayEdit net e × MayEditAll (after_edit e net) es

-- whether there is an arc between these ends, and whether exactly this arc does
abbrev pub joins : Net → Node × Node → Bool
joins net ends = is_some (lookup ends_cmp ends net.arcs)

abbrev pub same_value : ℕ × ℕ → ℕ × ℕ → Bool
same_value v w = (v.0 == w.0) && (v.1 == w.1)

abbrev pub has_arc : Net → Arc → Bool
has_arc net a = passes (same_value a.1) (lookup ends_cmp a.0 net.arcs)

-- The change from one network to another: what is in the one alone goes, and what is in the other alone, or differs,
-- comes.
abbrev pub gone_arcs : Net → Net → List Arc
gone_arcs n m = filter (λ a. not (joins m a.0)) n.arcs

abbrev pub gone_nodes : Net → Net → List Node
gone_nodes n m = filter (λ x. not (has_node m x)) n.nodes

abbrev pub new_nodes : Net → Net → List Node
new_nodes n m = filter (λ x. not (has_node n x)) m.nodes

abbrev pub new_arcs : Net → Net → List Arc
new_arcs n m = filter (λ a. not (has_arc n a)) m.arcs

abbrev pub drop_of : Arc → Edit
drop_of a = DropArc a.0.0 a.0.1

abbrev pub put_of : Arc → Edit
put_of a = PutArc a.0.0 a.0.1 a.1.0 a.1.1

abbrev pub change : Net → Net → List Edit
change n m = map drop_of (gone_arcs n m) ++ (map DropNode (gone_nodes n m) ++ (map PutNode (new_nodes n m) ++ map put_of (new_arcs n m)))

-- the edits up to some one were made
abbrev pub IsPartMade : Net → List Edit → Net → Type 0
IsPartMade old edits new = (n : ℕ) × (new ≡ after_edits (take n edits) old)
