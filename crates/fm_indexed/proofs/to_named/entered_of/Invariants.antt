-- The nodes so far, and those to come, are the whole.
use Rattle.std.proofs.Common.{◌≡◌, ◌++◌, drop}
use Rattle.fm_indexed.specs.inner.Named.{entered_by}
use Rattle.fm_indexed.proofs.to_named.entered_of.Given as goal

abbrev pub invariant-loop-place : goal.invariant-loop-place
invariant-loop-place l = l.entered.items ++ entered_by (drop l.place l.nodes) (drop l.place l.sums) ≡ entered_by l.nodes l.sums
