use Rattle.std.proofs.Common.{◌≡◌, ◌++◌, string_bytes}
use Rattle.std.specs.List.{flat_map}
use Rattle.fm_query.specs.ListText.{listed_task}
use Rattle.fm_query.proofs.list_text.write_tasks.Given as goal

abbrev pub invariant-loop-task : goal.invariant-loop-task
invariant-loop-task l =
    (goal.iterator-loop-task).can_next l.task-iterator × (goal.iterator-loop-task).is_finite l.task-iterator
    × (string_bytes l.initial.lines ++ flat_map (listed_task l.knowledge) l.knowledge.tasks ≡ string_bytes l.lines ++ flat_map (listed_task l.knowledge) l.task-iterator)
