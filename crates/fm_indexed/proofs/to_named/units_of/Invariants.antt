-- The arcs so far, and those to come, are the whole.
use Rattle.std.proofs.Common.{◌≡◌, ◌++◌, drop}
use Rattle.fm_indexed.specs.inner.Named.{units_by}
use Rattle.fm_indexed.proofs.to_named.units_of.Given as goal

abbrev pub invariant-loop-place : goal.invariant-loop-place
invariant-loop-place l = l.entries.items ++ units_by l.nodes (drop l.place l.arcs) (drop l.place l.units) ≡ units_by l.nodes l.arcs l.units
