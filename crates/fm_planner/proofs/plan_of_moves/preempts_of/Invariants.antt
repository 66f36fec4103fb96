use Rattle.std.proofs.Common.{◌≡◌, ◌++◌, drop}
use Rattle.fm_paths.specs.Moves.{preempts_of_moves}
use Rattle.fm_planner.proofs.plan_of_moves.preempts_of.Given as goal

abbrev pub invariant-loop-task : goal.invariant-loop-task
invariant-loop-task l = l.preempts.items ++ preempts_of_moves l.knowledge (drop l.task-index l.moves) ≡ preempts_of_moves l.knowledge l.moves
