use Rattle.std.proofs.Common.{drop}
use Rattle.fm_planner.specs.inner.Slackness.{AllOf, IsFairMove}
use Rattle.fm_planner.proofs.checking.are_fair_moves.Given as goal

abbrev pub invariant-loop-task : goal.invariant-loop-task
invariant-loop-task l = AllOf (IsFairMove l.knowledge l.tally l.claim l.counts) (drop l.task-index l.task-items) → AllOf (IsFairMove l.knowledge l.tally l.claim l.counts) l.claim.moves
