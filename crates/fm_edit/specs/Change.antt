-- What the edits of a change are of. Own.
use Rattle.std.specs.Prelude.{◌≡◌, List, [], ◌∷◌, Option, Some, None}
use Rattle.fm_records.specs.Sets.{IsMember}
use Rattle.fm_net.specs.declared.node.Node.{Node}
use Rattle.fm_net.specs.declared.edit.Edit.{Edit}
use Rattle.fm_net.specs.declared.edit.Edit.TheVariants.{DropArc, DropNode, PutNode, PutArc}

-- the node that an edit is of, or the two ends of its arc
abbrev pub edit_of : Edit → Node × Option Node
edit_of (DropArc a b) = (a, Some b)
edit_of (DropNode n) = (n, None)
edit_of (PutNode n) = (n, None)
edit_of (PutArc a b capacity cost) = (a, Some b)

-- no two of the edits are of the same node, or of an arc with the same ends
abbrev pub AreDistinctEdits : List Edit → Type 0
AreDistinctEdits [] = Unit {0}
AreDistinctEdits (e ∷ es) = ((f : Edit) → IsMember f es → ¬ (edit_of f ≡ edit_of e)) × AreDistinctEdits es
