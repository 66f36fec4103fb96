-- What an Editor remembers of a table: a line for each index, which function of the table it is. Own.
use Rattle.std.specs.Prelude.{◌≡◌, ℕ, Bool, false, not, ◌&&◌, filter, sum_by}
use Rattle.fm_records.specs.Table.{Table}
use Rattle.fm_net.specs.declared.node.Node.{Node}
use Rattle.fm_edit.specs.declared.task_index.TaskIndex.{TaskIndex}
use Rattle.fm_edit.specs.declared.editor_state.EditorState.{EditorState}
use Rattle.fm_net.specs.Net.{Net}
use Rattle.fm_net.specs.Network.{net_of}
use Rattle.fm_edit.specs.CacheModel.{sight_of, seen_in, prefers_in}
use Rattle.fm_edit.specs.TaskIndex.{is_indexed, counts_at, weight_at, lists, lists_preferred, sum_in}

-- what the tasks that are not out add up to at a node
abbrev pub sum_over : (ℕ → Bool) → Table → Node → ℕ
sum_over out k n = sum_by (λ e. weight_at n e.1.0) (filter (λ e. counts_at (sight_of k) n e.0 && not (out e.0)) k.tasks)

-- no task is out, and one more is
abbrev pub none_out : ℕ → Bool
none_out t = false

-- the tasks that are not out are listed where they are to be, and count
pub record Counts (out : ℕ → Bool) (k : Table) (x : TaskIndex) : Type 0 where
  pub listed : (n : Node) (t : ℕ) → lists x n t ≡ (is_indexed (sight_of k) n t && not (out t))
  pub preferred : (m t : ℕ) → lists_preferred x m t ≡ (prefers_in (sight_of k) m t && not (out t))
  pub sums : (n : Node) → sum_in x n ≡ sum_over out k n

-- A memory is of a table if its records are those of the table, with the spots that the winners of the present attempts
-- name, and where all tasks of the table are listed and count.
pub record Remembers (k : Table) (m : EditorState) : Type 0 where
  pub sees : seen_in m.seen ≡ sight_of k
  pub counts : Counts none_out k m.index

-- the memory is of the table, and the network is the table's
pub record IsEditorState (m : EditorState) (net : Net) (k : Table) : Type 0 where
  pub network : net ≡ net_of k
  pub remembers : Remembers k m
