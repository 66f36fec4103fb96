-- The ends of an arc are nodes.
use Rattle.std.proofs.Common.{ℕ, ◌<◌}
use Rattle.fm_cycles.specs.declared.indexed_arcs.IndexedArc.{IndexedArc}
use Rattle.fm_indexed.specs.declared.sums.End.{End}
use Rattle.fm_indexed.specs.declared.sums.End.TheVariants.{Source, Target}
use Rattle.fm_indexed.specs.inner.ArcEnds.{node_at_end}

pub end_below : (end : End) (a : IndexedArc) (nodes : ℕ) → (a.from < nodes) × (a.to < nodes) → node_at_end end a < nodes
end_below Source a nodes h = h.0
end_below Target a nodes h = h.1
