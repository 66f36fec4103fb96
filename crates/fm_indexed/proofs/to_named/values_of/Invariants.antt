-- The nodes so far, and those to come, are the whole.
use Rattle.std.proofs.Common.{◌≡◌, ◌++◌, drop}
use Rattle.fm_indexed.specs.inner.Named.{named_potentials}
use Rattle.fm_indexed.proofs.to_named.values_of.Given as goal

abbrev pub invariant-loop-place : goal.invariant-loop-place
invariant-loop-place l = l.pairs.items ++ named_potentials (drop l.place l.nodes) (drop l.place l.values) ≡ named_potentials l.nodes l.values
