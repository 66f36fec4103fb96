-- The pairs that touched nodes bring with them. Own.
use Rattle.std.specs.Prelude.{◌≡◌, ℕ, ◌<◌, ◌^◌, Bool, true, false, List, filter, map, IsSome}
use Rattle.std.specs.declared.ops.Bound.TheVariants.{Included, Excluded}
use Rattle.std.specs.BTreeMap.Range.{range_contains}
use Rattle.fm_net.specs.declared.node.Node.{Node}
use Rattle.fm_net.specs.declared.node.Node.TheVariants.{Sink, Unscheduled, Request, Machine, Task}
use Rattle.fm_net.specs.Nodes.{node_cmp}
use Rattle.fm_net.specs.Net.{Net, has_node}
use Rattle.fm_net.specs.Touched.{is_among}
use Rattle.fm_edit.specs.declared.task_index.TaskIndex.{TaskIndex}
use Rattle.fm_edit.specs.declared.editor_state.EditorState.{EditorState}
use Rattle.fm_edit.specs.declared.affected.Touched.{Touched}
use Rattle.fm_edit.specs.CacheModel.{Sight, seen_in}
use Rattle.fm_edit.specs.TaskIndex.{sum_in, lists_preferred}
use Rattle.fm_edit.specs.inner.EditorFacts.{node_by}
use Rattle.fm_edit.specs.inner.CacheFacts.{node_shown}
use Rattle.fm_edit.specs.inner.Affected.{has_touched, has_pair, AffectedGrows}

abbrev pub is_request_node : Node → Bool
is_request_node (Request q) = true
is_request_node _ = false

abbrev pub is_machine : Node → Bool
is_machine (Machine m) = true
is_machine _ = false

-- the nodes from which an arc leads to the sink
abbrev pub leads_to_sink : Node → Bool
leads_to_sink (Unscheduled j) = true
leads_to_sink (Machine m) = true
leads_to_sink _ = false

-- the requests at which tasks wait
abbrev pub waiting_in : TaskIndex → List Node
waiting_in x = map (λ e. e.0) (filter (λ e. range_contains node_cmp (Included (Request 0)) (Excluded (Machine 0)) e.0) x.sums.entries)

-- with the pairs of each touched machine and job with the sink, of each touched machine with each request that is touched or
-- waits and with each task that is listed as preferring it, and of each touched request that came or went with each machine
-- that is known
pub record Completes (s : Sight) (index : TaskIndex) (net : Net) (old new : Touched) : Type 0 where
  pub nodes : new.nodes ≡ old.nodes
  pub grows : AffectedGrows old new
  pub sinks : (n : Node) → has_touched old n ≡ true → leads_to_sink n ≡ true → has_pair new n Sink ≡ true
  pub touched_places : (q m : ℕ) → has_touched old (Request q) ≡ true → has_touched old (Machine m) ≡ true → has_pair new (Request q) (Machine m) ≡ true
  pub waiting_places : (q m : ℕ) → node_shown s (sum_in index) (Request q) ≡ true → has_touched old (Machine m) ≡ true → has_pair new (Request q) (Machine m) ≡ true
  pub preferring : (m t : ℕ) → t < 2 ^ 128 → lists_preferred index m t ≡ true → has_touched old (Machine m) ≡ true → has_pair new (Task t) (Machine m) ≡ true
  pub turned_places : (q m : ℕ) → has_touched old (Request q) ≡ true → (has_node net (Request q) ≡ node_shown s (sum_in index) (Request q) → ⊥) → IsSome (s.machine m) → has_pair new (Request q) (Machine m) ≡ true

-- the pairs that one touched node adds: a job or machine with the sink, a machine with each of the requests and with each task
-- that is listed as preferring it, and a request that came or went with each machine that is known
abbrev pub AddsSink : Node → Touched → Type 0
AddsSink n new = leads_to_sink n ≡ true → has_pair new n Sink ≡ true

abbrev pub AddsPlaces : List Node → Node → Touched → Type 0
AddsPlaces requests n new = is_machine n ≡ true → (r : Node) → is_among node_cmp requests r ≡ true → has_pair new r n ≡ true

abbrev pub AddsPreferring : TaskIndex → Node → Touched → Type 0
AddsPreferring index n new = (m t : ℕ) → n ≡ Machine m → t < 2 ^ 128 → lists_preferred index m t ≡ true → has_pair new (Task t) n ≡ true

abbrev pub AddsMachines : EditorState → Net → Node → Touched → Type 0
AddsMachines memory net n new = is_request_node n ≡ true → (has_node net n ≡ node_by memory n → ⊥) → (m : ℕ) → IsSome ((seen_in memory.seen).machine m) → has_pair new n (Machine m) ≡ true
