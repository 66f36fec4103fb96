use Rattle.std.proofs.Common.{◌≡◌, ◌++◌, string_bytes, drop}
use Rattle.std.specs.List.{flat_map}
use Rattle.fm_query.specs.OverText.{over_lines}
use Rattle.fm_query.proofs.over_text.write_relief.Given as goal

abbrev pub invariant-loop-overfull : goal.invariant-loop-overfull
invariant-loop-overfull l =
    string_bytes l.initial.lines ++ flat_map over_lines l.relief ≡ string_bytes l.lines ++ flat_map over_lines (drop l.overfull-index l.relief)
