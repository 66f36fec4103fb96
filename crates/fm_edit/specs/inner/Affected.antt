-- What was touched: nodes, and pairs of nodes. Own.
use Rattle.std.specs.Prelude.{◌≡◌, ◌⊎◌, ℕ, Bool, true, List, Option, Some}
use Rattle.std.specs.List.{list_any}
use Rattle.std.specs.Ordering.{is_eq}
use Rattle.fm_net.specs.declared.node.Node.{Node}
use Rattle.fm_net.specs.declared.node.Node.TheVariants.{Machine, Task}
use Rattle.fm_net.specs.Nodes.{node_cmp, ends_cmp}
use Rattle.fm_edit.specs.declared.affected.Touched.{Touched}
use Rattle.fm_records.specs.Table.{Table}
use Rattle.fm_policy.specs.Changes.{Keys}
use Rattle.fm_edit.specs.Dirty.{has_id, turned_in, MayTurn}
use Rattle.fm_edit.specs.CacheModel.{Sight, prefers_in}
use Rattle.fm_edit.specs.inner.CachedNodes.{job_node_in, request_node_in, holder_node_in}

abbrev pub has_touched : Touched → Node → Bool
has_touched x n = list_any (λ m. is_eq (node_cmp n m)) x.nodes.keys

abbrev pub has_pair : Touched → Node → Node → Bool
has_pair x a b = list_any (λ p. is_eq (ends_cmp (a, b) p)) x.pairs.keys

-- what was touched is touched
pub record AffectedGrows (old new : Touched) : Type 0 where
  pub nodes : (n : Node) → has_touched old n ≡ true → has_touched new n ≡ true
  pub pairs : (a b : Node) → has_pair old a b ≡ true → has_pair new a b ≡ true

-- the node, if there is one, is touched, and the pair of the task and it
abbrev pub AffectsEnd : Touched → ℕ → Option Node → Type 0
AffectsEnd x t o = (n : Node) → o ≡ Some n → (has_touched x n ≡ true) × (has_pair x (Task t) n ≡ true)

-- the task's node, and where its arcs can lead
pub record TouchesTask (s : Sight) (t : ℕ) (x : Touched) : Type 0 where
  pub node : has_touched x (Task t) ≡ true
  pub job : AffectsEnd x t (job_node_in s t)
  pub request : AffectsEnd x t (request_node_in s t)
  pub holder : AffectsEnd x t (holder_node_in s t)
  pub preferred : (m : ℕ) → prefers_in s m t ≡ true → has_pair x (Task t) (Machine m) ≡ true

-- the node of one of the ids
abbrev pub IsNodeOf : (ℕ → Node) → List ℕ → Node → Type 0
IsNodeOf node ids n = (i : ℕ) × (has_id ids i ≡ true) × (node i ≡ n)

-- the task's node, or that of its job, of its request or of its holder
abbrev pub IsTaskEnd : Sight → ℕ → Node → Type 0
IsTaskEnd s t n = (Task t ≡ n) ⊎ ((job_node_in s t ≡ Some n) ⊎ ((request_node_in s t ≡ Some n) ⊎ (holder_node_in s t ≡ Some n)))

abbrev pub IsEndOf : Sight → List ℕ → Node → Type 0
IsEndOf s ts n = (t : ℕ) × (has_id ts t ≡ true) × IsTaskEnd s t n

-- only nodes that may come or go are touched
abbrev pub TouchesOnlyDirty : Table → Table → Keys → Touched → Type 0
TouchesOnlyDirty k after keys x = (n : Node) → has_touched x n ≡ true → MayTurn k after keys (turned_in k after keys) n
