-- The nodes so far send what they have to.
use Rattle.std.proofs.Common.{◌<◌, ℕ, slice_index}
use Rattle.fm_indexed.specs.NodeRanges.{kind_at}
use Rattle.fm_indexed.specs.Feasible.{IsConserved}
use Rattle.fm_indexed.proofs.feasible_units.all_send.Given as goal

abbrev pub invariant-loop-place : goal.invariant-loop-place
invariant-loop-place l = (v : ℕ) → v < l.place → IsConserved (kind_at l.places v) (slice_index l.entered v) (slice_index l.left v)
