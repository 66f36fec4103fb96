use Rattle.std.proofs.Common.{◌≡◌, ◌+◌, ◌++◌, List, length}
use Rattle.fm_coord.specs.declared.entry.Entry.{Entry}
use Rattle.fm_service.specs.inner.OwnRuns.{added_by}
use Rattle.fm_service.proofs.own_news.latest.Given as goal

abbrev pub invariant-loop-left : goal.invariant-loop-left
invariant-loop-left l = record {
  behind : List Entry;
  whole : l.fn.history ≡ l.earlier ++ behind;
  counted : l.left + length (added_by behind) ≡ l.fn.deltas;
}

abbrev pub decreases-loop-left : goal.decreases-loop-left
decreases-loop-left l = length l.earlier
