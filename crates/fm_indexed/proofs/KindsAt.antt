-- The kind at a place is that of the node there.
use Rattle.std.proofs.Common.{◌≡◌, refl, ℕ, ◌-◌, ◌<◌, ◌≤◌, List, Some, lt-ltb, le-ltb, arith}
use Rattle.std.specs.Prelude.{slice_get}
use Rattle.std.proofs.lemmas.Option.{slice_get_within}
use Rattle.fm_records.specs.Rising.{Rises}
use Rattle.fm_net.specs.declared.node.Node.{Node}
use Rattle.fm_net.specs.declared.node.Node.TheVariants as node
use Rattle.fm_net.specs.Nodes.{node_cmp}
use Rattle.fm_indexed.specs.declared.node_ranges.NodeRanges.{NodeRanges}
use Rattle.fm_indexed.specs.declared.node_ranges.NodeKind.{NodeKind}
use Rattle.fm_indexed.specs.declared.node_ranges.NodeKind.TheVariants.{Sink, Unscheduled, Request, Machine, Task}
use Rattle.fm_indexed.specs.NodeRanges.{AreRangesOf, kind_at}
use Rattle.fm_indexed.specs.inner.KindRanges.{range_start, range_end}
use Rattle.fm_indexed.proofs.Placed.{low_before, high_behind, count_most}

-- the kind of a node at a place
abbrev pub kind_there : NodeRanges → ℕ → Node → NodeKind
kind_there places v (node.Sink) = Sink
kind_there places v (node.Unscheduled j) = Unscheduled (v - places.jobs)
kind_there places v (node.Request r) = Request (v - places.requests)
kind_there places v (node.Machine m) = Machine (v - places.machines)
kind_there places v (node.Task t) = Task (v - places.tasks)

module _ (nodes : List Node) (places : NodeRanges) (rises : Rises node_cmp nodes) (are : AreRangesOf nodes places) (v : ℕ) where
  pub kind_is : (n : Node) → slice_get nodes v ≡ Some n → kind_at places v ≡ kind_there places v n
  kind_is (node.Sink) at =
      let a = low_before 1 nodes v (node.Sink) rises at (omega arith) in
      let e = are.jobs in
      rw (lt-ltb v places.jobs (omega arith)) refl
  kind_is (node.Unscheduled j) at =
      let a = high_behind 1 nodes v (node.Unscheduled j) rises at (omega arith) in
      let b = low_before 2 nodes v (node.Unscheduled j) rises at (omega arith) in
      let e = are.jobs in
      let f = are.requests in
      rw (le-ltb v places.jobs (omega arith), lt-ltb v places.requests (omega arith)) refl
  kind_is (node.Request r) at =
      let a = high_behind 1 nodes v (node.Request r) rises at (omega arith) in
      let b = high_behind 2 nodes v (node.Request r) rises at (omega arith) in
      let c = low_before 3 nodes v (node.Request r) rises at (omega arith) in
      let e = are.jobs in
      let f = are.requests in
      let g = are.machines in
      rw (le-ltb v places.jobs (omega arith), le-ltb v places.requests (omega arith), lt-ltb v places.machines (omega arith)) refl
  kind_is (node.Machine m) at =
      let a = high_behind 1 nodes v (node.Machine m) rises at (omega arith) in
      let b = high_behind 2 nodes v (node.Machine m) rises at (omega arith) in
      let c = high_behind 3 nodes v (node.Machine m) rises at (omega arith) in
      let d = low_before 4 nodes v (node.Machine m) rises at (omega arith) in
      let e = are.jobs in
      let f = are.requests in
      let g = are.machines in
      let h = are.tasks in
      rw (le-ltb v places.jobs (omega arith), le-ltb v places.requests (omega arith), le-ltb v places.machines (omega arith), lt-ltb v places.tasks (omega arith)) refl
  kind_is (node.Task t) at =
      let a = high_behind 1 nodes v (node.Task t) rises at (omega arith) in
      let b = high_behind 2 nodes v (node.Task t) rises at (omega arith) in
      let c = high_behind 3 nodes v (node.Task t) rises at (omega arith) in
      let d = high_behind 4 nodes v (node.Task t) rises at (omega arith) in
      let e = are.jobs in
      let f = are.requests in
      let g = are.machines in
      let h = are.tasks in
      rw (le-ltb v places.jobs (omega arith), le-ltb v places.requests (omega arith), le-ltb v places.machines (omega arith), le-ltb v places.tasks (omega arith)) refl

  -- a node stands among those of its kind
  pub record IsAmong (n : Node) : Type 0 where
    pub first : range_start places n ≤ v
    pub end : v < range_end places n
    pub most : range_end places n ≤ places.end

  pub among : (n : Node) → slice_get nodes v ≡ Some n → IsAmong n
  among (node.Sink) at =
      let a = low_before 1 nodes v (node.Sink) rises at (omega arith) in
      let e = are.jobs in
      let k = are.end in
      record { first = omega arith; end = omega arith; most = let m = count_most 1 nodes in omega arith }
  among (node.Unscheduled j) at =
      let a = high_behind 1 nodes v (node.Unscheduled j) rises at (omega arith) in
      let b = low_before 2 nodes v (node.Unscheduled j) rises at (omega arith) in
      let e = are.jobs in
      let f = are.requests in
      let k = are.end in
      record { first = omega arith; end = omega arith; most = let m = count_most 2 nodes in omega arith }
  among (node.Request r) at =
      let a = high_behind 2 nodes v (node.Request r) rises at (omega arith) in
      let b = low_before 3 nodes v (node.Request r) rises at (omega arith) in
      let e = are.requests in
      let f = are.machines in
      let k = are.end in
      record { first = omega arith; end = omega arith; most = let m = count_most 3 nodes in omega arith }
  among (node.Machine m) at =
      let a = high_behind 3 nodes v (node.Machine m) rises at (omega arith) in
      let b = low_before 4 nodes v (node.Machine m) rises at (omega arith) in
      let e = are.machines in
      let f = are.tasks in
      let k = are.end in
      record { first = omega arith; end = omega arith; most = let m = count_most 4 nodes in omega arith }
  among (node.Task t) at =
      let a = high_behind 4 nodes v (node.Task t) rises at (omega arith) in
      let e = are.tasks in
      let k = are.end in
      let within = slice_get_within nodes v (node.Task t) at in
      record { first = omega arith; end = omega arith; most = omega arith }
