-- A network in indices that is well formed.
use Rattle.std.specs.Prelude.{◌≡◌, ℕ, ◌<◌, ◌^◌, List, Some, false, slice_get}
use Rattle.fm_cycles.specs.declared.indexed_arcs.IndexedArc.{IndexedArc}
use Rattle.fm_cycles.specs.Residual.{AreArcs}
use Rattle.fm_cycles.specs.Units.{AreCapacities}
use Rattle.fm_indexed.specs.declared.node_ranges.NodeRanges.{NodeRanges}
use Rattle.fm_indexed.specs.NodeRanges.{kind_at}
use Rattle.fm_indexed.specs.inner.KindRanges.{is_task}

-- what is known of all networks by numbers: both ends of an arc are places of nodes, its numbers fit, and none leads to
-- a task
pub record IsFormed (places : NodeRanges) (arcs : List IndexedArc) : Type 0 where
  pub few : places.end < 2 ^ 63
  pub ends : AreArcs arcs places.end
  pub capacities : AreCapacities arcs
  pub targets : (i : ℕ) (a : IndexedArc) → slice_get arcs i ≡ Some a → is_task (kind_at places a.to) ≡ false
