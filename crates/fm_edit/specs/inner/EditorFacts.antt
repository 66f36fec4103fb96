-- What an editor's state tells of nodes and arcs.
use Rattle.std.specs.Prelude.{◌≡◌, ℕ, Bool, ◌||◌, Option, IfSome}
use Rattle.std.specs.Ordering.{nat_cmp, is_eq}
use Rattle.fm_net.specs.declared.node.Node.{Node}
use Rattle.fm_policy.specs.declared.node_facts.NodeFacts.{NodeFacts}
use Rattle.fm_policy.specs.NodeFacts.{node_of}
use Rattle.fm_edit.specs.declared.editor_state.EditorState.{EditorState}
use Rattle.fm_edit.specs.CacheModel.{seen_in}
use Rattle.fm_edit.specs.TaskIndex.{sum_in}
use Rattle.fm_edit.specs.inner.CacheFacts.{facts_shown, node_shown, arc_shown}
use Rattle.fm_edit.specs.declared.shown.Ends.{Ends}

abbrev pub also_out : ℕ → (ℕ → Bool) → ℕ → Bool
also_out t out q = is_eq (nat_cmp q t) || out q

-- what a memory tells of nodes, and the nodes and arcs that follow from that
abbrev pub facts_by : EditorState → Node → NodeFacts
facts_by m = facts_shown (seen_in m.seen) (sum_in m.index)

abbrev pub node_by : EditorState → Node → Bool
node_by m = node_shown (seen_in m.seen) (sum_in m.index)

abbrev pub arc_by : EditorState → Node → Node → Option (ℕ × ℕ)
arc_by m = arc_shown (seen_in m.seen) (sum_in m.index)

-- what was found of a node is what the memory tells of it; and so of two ends, if they were found
abbrev pub IsKnownBy : EditorState → NodeFacts → Type 0
IsKnownBy m x = x ≡ facts_by m (node_of x)

pub record AreKnownBy (m : EditorState) (ends : Ends) : Type 0 where
  pub from : IfSome ends.from (IsKnownBy m)
  pub to : IfSome ends.to (IsKnownBy m)
