-- The sums so far, with what is still to come, are the whole.
use Rattle.std.proofs.Common.{◌≡◌, vec_len}
use Rattle.fm_indexed.specs.inner.ArcEnds.{node_at_end}
use Rattle.fm_indexed.proofs.Summed.{AddUp}
use Rattle.fm_indexed.proofs.sums.sums_of.Given as goal

abbrev pub invariant-loop-place : goal.invariant-loop-place
invariant-loop-place l = record {
  sized : vec_len l.sums ≡ l.numbered.places.end;
  add_up : AddUp (node_at_end l.end) l.numbered.places.end l.numbered.arcs.items l.units l.place l.sums.items;
}
