use Rattle.std.proofs.Common.{◌≡◌, ◌++◌, string_bytes}
use Rattle.std.specs.List.{flat_map}
use Rattle.fm_query.proofs.text_lines.write_map.Given as goal

abbrev pub invariant-loop-key : goal.invariant-loop-key
invariant-loop-key g l =
    (goal.iterator-loop-key g).can_next l.key-iterator × (goal.iterator-loop-key g).is_finite l.key-iterator
    × (string_bytes l.initial.lines ++ flat_map g.V.EntryText.entry_text l.map ≡ string_bytes l.lines ++ flat_map g.V.EntryText.entry_text l.key-iterator)
