use Rattle.std.proofs.Common.{◌≡◌, ◌++◌, string_bytes, drop}
use Rattle.fm_query.specs.TextLines.{text_of_lines}
use Rattle.fm_query.proofs.text_lines.write_lines.Given as goal

abbrev pub invariant-loop-item : goal.invariant-loop-item
invariant-loop-item g l =
    string_bytes l.initial.lines ++ text_of_lines g.T.LineText.line_text l.items ≡ string_bytes l.lines ++ text_of_lines g.T.LineText.line_text (drop l.item-index l.items)
