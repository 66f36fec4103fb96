use Rattle.std.proofs.Common.{◌≡◌, ◌++◌, string_bytes}
use Rattle.std.specs.List.{flat_map}
use Rattle.fm_query.specs.Unpacked.{proposal_line}
use Rattle.fm_query.proofs.unpack.write_attempt.Given as goal

abbrev pub invariant-loop-coordinator : goal.invariant-loop-coordinator
invariant-loop-coordinator l =
    (goal.iterator-loop-coordinator).can_next l.coordinator-iterator × (goal.iterator-loop-coordinator).is_finite l.coordinator-iterator
    × (string_bytes l.initial.lines ++ flat_map (proposal_line (l.task, l.attempt)) l.spots ≡ string_bytes l.lines ++ flat_map (proposal_line (l.task, l.attempt)) l.coordinator-iterator)
