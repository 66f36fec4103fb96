use Rattle.std.proofs.Common.{◌≡◌, ◌++◌, drop}
use Rattle.fm_paths.specs.Moves.{places_of_moves}
use Rattle.fm_planner.proofs.plan_of_moves.places_of.Given as goal

abbrev pub invariant-loop-task : goal.invariant-loop-task
invariant-loop-task l = l.places.items ++ places_of_moves l.knowledge (drop l.task-index l.moves) ≡ places_of_moves l.knowledge l.moves
