-- Where tasks are listed, and where they count for how much. Own.
use Rattle.std.specs.Prelude.{ℕ, Bool, false, not, ◌==◌, ◌&&◌, Option, true, unwrap_or}
use Rattle.std.specs.BTreeMap.{get}
use Rattle.std.specs.List.{list_any}
use Rattle.std.specs.Ordering.{nat_cmp, is_eq, on, then_cmp}
use Rattle.std.specs.declared.cmp.Ordering.{Ordering}
use Rattle.fm_records.specs.declared.records.SpecReg.{SpecReg}
use Rattle.fm_records.specs.Options.{passes}
use Rattle.fm_records.specs.Facts.{request_of}
use Rattle.fm_net.specs.declared.node.Node.{Node}
use Rattle.fm_net.specs.declared.node.Node.TheVariants.{Unscheduled, Request, Machine}
use Rattle.fm_net.specs.Nodes.{node_cmp}
use Rattle.fm_edit.specs.declared.task_index.TaskIndex.{TaskIndex}
use Rattle.fm_edit.specs.CacheModel.{Sight, cached_spec, cached_live, cached_holder}

-- a task is listed at the job that its spec names, and at the machine that the winner of its present attempt names
abbrev pub is_indexed : Sight → Node → ℕ → Bool
is_indexed s (Unscheduled j) t = passes (λ r. r.job == j) (cached_spec s t)
is_indexed s (Machine m) t = passes (λ p. p.machine == m) (s.spot t)
is_indexed s _ t = false

-- a task counts at its job while it is live, at its request while it waits, and at the machine that holds it
abbrev pub counts_at : Sight → Node → ℕ → Bool
counts_at s (Unscheduled j) t = passes (λ r. r.job == j) (cached_live s t)
counts_at s (Request q) t = passes (λ r. r.request == q) (cached_live s t) && not (passes (λ m. true) (cached_holder s t))
counts_at s (Machine m) t = passes (λ h. h == m) (cached_holder s t)
counts_at s _ t = false

-- at a machine for its request, elsewhere for one
abbrev pub weight_at : Node → Option SpecReg → ℕ
weight_at (Machine m) spec = request_of spec
weight_at _ spec = 1

abbrev pub listed_cmp : Node × ℕ → Node × ℕ → Ordering
listed_cmp = then_cmp (on (λ p. p.0) node_cmp) (on (λ p. p.1) nat_cmp)

abbrev pub preferred_cmp : ℕ × ℕ → ℕ × ℕ → Ordering
preferred_cmp = then_cmp (on (λ p. p.0) nat_cmp) (on (λ p. p.1) nat_cmp)

-- what an index says of a task at a node, and of a node
abbrev pub lists : TaskIndex → Node → ℕ → Bool
lists x n t = list_any (λ p. is_eq (listed_cmp (n, t) p)) x.listed.keys

abbrev pub lists_preferred : TaskIndex → ℕ → ℕ → Bool
lists_preferred x m t = list_any (λ p. is_eq (preferred_cmp (m, t) p)) x.preferred.keys

abbrev pub sum_in : TaskIndex → Node → ℕ
sum_in x n = unwrap_or (get node_cmp x.sums n) 0
