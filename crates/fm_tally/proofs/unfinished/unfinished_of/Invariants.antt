use Rattle.std.proofs.Common.{◌≡◌, ◌++◌}
use Rattle.fm_tally.specs.Unfinished.{unfinished_at}
use Rattle.fm_tally.proofs.Rows.{rows}
use Rattle.fm_tally.proofs.Walk.{IsWalk}
use Rattle.fm_tally.proofs.unfinished.unfinished_of.Given as goal

abbrev pub invariant-loop-task : goal.invariant-loop-task
invariant-loop-task l = record {
  found : l.found.items ++ rows (unfinished_at l.knowledge) l.task-iterator ≡ rows (unfinished_at l.knowledge) l.knowledge.tasks;
  walk : IsWalk l.knowledge l.task-iterator l.winners;
}
