use Rattle.std.proofs.Common.{◌≡◌, ℕ, take}
use Rattle.std.specs.List.{filter_map}
use Rattle.fm_relief.specs.inner.HeldLists.{held_on, listed_entry}
use Rattle.fm_relief.proofs.held_tasks.HeldTasks.on.Given as goal

abbrev pub invariant-loop-task : goal.invariant-loop-task
invariant-loop-task l = (m : ℕ) → held_on l.held m ≡ filter_map (listed_entry l.knowledge l.machines m) (take l.task-index l.pairs)
