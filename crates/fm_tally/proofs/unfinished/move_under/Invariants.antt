use Rattle.std.proofs.Common.{◌≡◌, ◌++◌, filter, length}
use Rattle.std.specs.Ordering.{nat_cmp}
use Rattle.fm_lattice.specs.Maps.{IsRising}
use Rattle.fm_tally.specs.inner.Sides.{is_under, is_over}
use Rattle.fm_tally.proofs.unfinished.move_under.Given as goal

abbrev pub invariant-pairs : goal.invariant-pairs
invariant-pairs l = record {
  rising : IsRising nat_cmp l.left;
  under : l.found.items ++ filter (is_under l.key) l.left ≡ l.initial.found.items ++ filter (is_under l.key) l.pairs;
  over : filter (is_over l.key) l.left ≡ filter (is_over l.key) l.pairs;
}

abbrev pub decreases-pairs : goal.decreases-pairs
decreases-pairs l = length l.left
