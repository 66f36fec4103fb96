use Rattle.std.proofs.Common.{◌≡◌, ◌++◌, string_bytes}
use Rattle.std.specs.List.{flat_map}
use Rattle.fm_query.specs.ListText.{listed_machine}
use Rattle.fm_query.proofs.list_text.write_machines.Given as goal

abbrev pub invariant-loop-machine : goal.invariant-loop-machine
invariant-loop-machine l =
    (goal.iterator-loop-machine).can_next l.machine-iterator × (goal.iterator-loop-machine).is_finite l.machine-iterator
    × (string_bytes l.initial.lines ++ flat_map (listed_machine l.knowledge) l.knowledge.machines ≡ string_bytes l.lines ++ flat_map (listed_machine l.knowledge) l.machine-iterator)
