use Rattle.std.proofs.Common.{◌++◌, ◌∙◌, string_bytes, append-nil, ap, sym}
use Rattle.std.proofs.lemmas.Slice.Zip.{either_empty_from_Zip}
use Rattle.std.specs.Iterator.Adapters.{zip_first, zip_second}
use Rattle.std.specs.Slice.Iter.{iter_rest}
use Rattle.fm_query.specs.TextLines.{text_of_lines}
use Rattle.fm_query.specs.RoundText.{answered_text}
use Rattle.fm_query.proofs.Zipped.{none_left}
use Rattle.fm_query.proofs.round_text.write_answered.Goals as goal

pub returns-clause-ok : goal.returns-clause-ok
returns-clause-ok g c =
    let left = c.loop-entry.entry-iterator in
    let text = text_of_lines (answered_text g.T.LineText.line_text) in
    let lines = string_bytes c.loop-entry.lines in
    sym (c.loop-entry.invariant
    ∙ ap (λ es. lines ++ text es) (none_left (iter_rest (zip_first left)) (iter_rest (zip_second left)) (either_empty_from_Zip left c.next.new.self c.next.result c.in-None.is c.next.ensures.steps))
    ∙ append-nil lines)
