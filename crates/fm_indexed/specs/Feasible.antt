-- Flows by numbers.
use Rattle.std.specs.Prelude.{◌≡◌, ℕ, ◌<◌, List, length}
use Rattle.fm_cycles.specs.declared.indexed_arcs.IndexedArc.{IndexedArc}
use Rattle.fm_cycles.specs.Units.{inflow_at, outflow_at, AreWithin}
use Rattle.fm_indexed.specs.declared.node_ranges.NodeRanges.{NodeRanges}
use Rattle.fm_indexed.specs.declared.node_ranges.NodeKind.{NodeKind}
use Rattle.fm_indexed.specs.declared.node_ranges.NodeKind.TheVariants.{Sink, Unscheduled, Request, Machine, Task}
use Rattle.fm_indexed.specs.NodeRanges.{kind_at}

-- a task sends one unit, and a node between tasks and sink what enters it
abbrev pub IsConserved : NodeKind → ℕ → ℕ → Type 0
IsConserved Sink entered left = Unit {0}
IsConserved (Unscheduled i) entered left = entered ≡ left
IsConserved (Request i) entered left = entered ≡ left
IsConserved (Machine i) entered left = entered ≡ left
IsConserved (Task i) entered left = left ≡ 1

-- units for exactly the arcs, within their capacities, which each node sends as it has to
pub record IsFlowOf (places : NodeRanges) (arcs : List IndexedArc) (units : List ℕ) : Type 0 where
  pub sized : length units ≡ length arcs
  pub within : AreWithin arcs units
  pub sends : (v : ℕ) → v < places.end → IsConserved (kind_at places v) (inflow_at arcs units v) (outflow_at arcs units v)
