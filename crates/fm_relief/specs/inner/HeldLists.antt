-- The tasks that machines hold, listed by machine.
use Rattle.std.specs.Prelude.{ℕ, Bool, ◌==◌, List, [], Option, option_map, unwrap_or, is_some}
use Rattle.std.specs.Ordering.{nat_cmp}
use Rattle.std.specs.BTreeMap.{get}
use Rattle.fm_lattice.specs.Maps.{lookup}
use Rattle.fm_records.specs.Options.{and_then, only_if, when}
use Rattle.fm_records.specs.Table.{Table}
use Rattle.fm_records.specs.Facts.{attempt_of}
use Rattle.fm_tally.specs.declared.tally.LiveTask.{LiveTask}
use Rattle.fm_relief.specs.declared.excess.Excess.{Excess}
use Rattle.fm_relief.specs.declared.held_task.HeldTask.{HeldTask}
use Rattle.fm_relief.specs.declared.held_tasks.HeldTasks.{HeldTasks}

-- those of the machine
abbrev pub held_on : HeldTasks → ℕ → List HeldTask
held_on held m = unwrap_or (option_map (λ v. v.items) (get nat_cmp held.by_machine m)) []

-- the machine is listed
abbrev pub has_excess : List (ℕ × Excess) → ℕ → Bool
has_excess machines m = is_some (lookup nat_cmp m machines)

-- a live task, as one that a machine holds
abbrev pub task_entry : Table → ℕ → LiveTask → HeldTask
task_entry k t l = record { task = t; attempt = attempt_of k t; request = l.request; price = l.price }

-- what a live task adds to the list of a machine, if that is one of these
abbrev pub listed_entry : Table → List (ℕ × Excess) → ℕ → ℕ × LiveTask → Option HeldTask
listed_entry k machines m e = and_then (λ h. when (h == m) (task_entry k e.0 e.1)) (only_if (has_excess machines) e.1.holder)
