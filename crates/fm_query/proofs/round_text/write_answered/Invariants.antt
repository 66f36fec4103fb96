use Rattle.std.proofs.Common.{◌≡◌, ◌++◌, string_bytes}
use Rattle.std.specs.Iterator.Adapters.{zip_first, zip_second}
use Rattle.std.specs.List.{zip}
use Rattle.std.specs.Slice.Iter.{iter_rest}
use Rattle.fm_query.specs.TextLines.{text_of_lines}
use Rattle.fm_query.specs.RoundText.{answered_text}
use Rattle.fm_query.proofs.round_text.write_answered.Given as goal

abbrev pub invariant-loop-entry : goal.invariant-loop-entry
invariant-loop-entry g l =
    string_bytes l.initial.lines ++ text_of_lines (answered_text g.T.LineText.line_text) (zip l.entries l.answers)
    ≡ string_bytes l.lines ++ text_of_lines (answered_text g.T.LineText.line_text) (zip (iter_rest (zip_first l.entry-iterator)) (iter_rest (zip_second l.entry-iterator)))
