use Rattle.std.proofs.Common.{drop}
use Rattle.fm_tally.proofs.Following.{IsFollowing}
use Rattle.fm_tally.proofs.unfinished.unfinished_after.Given as goal

abbrev pub invariant-loop-task : goal.invariant-loop-task
invariant-loop-task l = record {
  following : IsFollowing l.knowledge (drop l.task-index l.changed) l.found.items l.rest;
}
