use Rattle.std.proofs.Common.{ℕ, ◌≤◌, take}
use Rattle.fm_planner.specs.inner.Counts.{pairs_in, arriving_in, leaving_in, AreCounts}
use Rattle.fm_planner.proofs.move_counts.Counts.of.Given as goal

abbrev pub invariant-loop-task : goal.invariant-loop-task
invariant-loop-task l = record {
  counted : AreCounts l.knowledge (take l.task-index l.moves) l.counts;
  pairs : (r m : ℕ) → pairs_in l.counts r m ≤ l.task-index;
  arriving : (m : ℕ) → arriving_in l.counts m ≤ l.task-index;
  leaving : (m : ℕ) → leaving_in l.counts m ≤ l.task-index;
}
