use Rattle.std.proofs.Common.{drop}
use Rattle.fm_planner.specs.inner.Slackness.{AllOf, IsFairTask}
use Rattle.fm_planner.proofs.checking.are_fair_tasks.Given as goal

abbrev pub invariant-loop-task : goal.invariant-loop-task
invariant-loop-task l = AllOf (IsFairTask l.knowledge l.tally l.claim) (drop l.task-index l.task-items) → AllOf (IsFairTask l.knowledge l.tally l.claim) l.tally.tasks
