-- The ends of an arc.
use Rattle.std.specs.Prelude.{ℕ}
use Rattle.fm_cycles.specs.declared.indexed_arcs.IndexedArc.{IndexedArc}
use Rattle.fm_indexed.specs.declared.sums.End.{End}
use Rattle.fm_indexed.specs.declared.sums.End.TheVariants.{Source, Target}

-- the node at the end
abbrev pub node_at_end : End → IndexedArc → ℕ
node_at_end Source arc = arc.from
node_at_end Target arc = arc.to
