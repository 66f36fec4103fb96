use Rattle.std.proofs.Common.{◌≡◌, ◌++◌, drop, length}
use Rattle.fm_records.specs.declared.records.Spot.{Spot}
use Rattle.fm_records.specs.Facts.{is_present}
use Rattle.fm_tally.specs.inner.Holdings.{names_open_machine}
use Rattle.fm_tally.specs.Tallies.{task_at}
use Rattle.fm_tally.proofs.Counting.{IsCounting}
use Rattle.fm_tally.proofs.Rows.{rows}
use Rattle.fm_tally.proofs.tally.tasks_of.Given as goal

abbrev pub invariant-loop-task : goal.invariant-loop-task
invariant-loop-task l = record {
  found : l.found.items ++ rows (task_at l.knowledge) (drop l.task-index l.pairs) ≡ rows (task_at l.knowledge) l.pairs;
  counting : IsCounting l.knowledge (length l.pairs) (drop l.task-index l.pairs) l.holdings;
  there : (s : Spot) → names_open_machine l.holdings s ≡ is_present l.knowledge s;
}
