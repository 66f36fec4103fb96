-- Parts of the index of tasks.
use Rattle.std.specs.Prelude.{◌≡◌, List, ℕ, cond, true}
use Rattle.std.specs.Ordering.{nat_cmp, on, then_cmp}
use Rattle.std.specs.declared.cmp.Ordering.{Ordering}
use Rattle.fm_net.specs.declared.node.Node.{Node}
use Rattle.fm_edit.specs.declared.task_index.TaskIndex.{TaskIndex}
use Rattle.fm_edit.specs.Dirty.{has_id}
use Rattle.fm_edit.specs.CacheModel.{Sight, cached_spec}
use Rattle.fm_edit.specs.TaskIndex.{counts_at, weight_at, lists}

-- what a task adds to the sum of a node: its weight if it counts there, else 0
abbrev pub amount_at : Sight → Node → ℕ → ℕ
amount_at s n t = cond (counts_at s n t) (weight_at n (cached_spec s t)) 0

-- the order of pairs of a key and a task: in the list of tasks by node, and by machine that they prefer
abbrev pub pair_cmp : {K : Type 0} → (K → K → Ordering) → K × ℕ → K × ℕ → Ordering
pair_cmp cmp = then_cmp (on (λ p. p.0) cmp) (on (λ p. p.1) nat_cmp)

-- the task is listed at the node of one of the ids
abbrev pub ListsAtOne : TaskIndex → (ℕ → Node) → List ℕ → ℕ → Type 0
ListsAtOne x node ids t = (i : ℕ) × (has_id ids i ≡ true) × (lists x (node i) t ≡ true)
