use Rattle.std.proofs.Common.{◌≡◌, ◌++◌, string_bytes}
use Rattle.std.specs.Iterator.Adapters.{zip_first, zip_second}
use Rattle.std.specs.List.{zip}
use Rattle.std.specs.Slice.Iter.{iter_rest}
use Rattle.fm_query.specs.TextLines.{text_of_lines}
use Rattle.fm_query.specs.ReasonsText.{choice_text, listed_text}
use Rattle.fm_query.proofs.reasons_text.write_listed.Given as goal

abbrev pub invariant-loop-choice : goal.invariant-loop-choice
invariant-loop-choice l =
    string_bytes l.initial.lines ++ listed_text l.choices
    ≡ string_bytes l.lines ++ text_of_lines (choice_text l.choices.least) (zip (iter_rest (zip_first l.choice-iterator)) (iter_rest (zip_second l.choice-iterator)))
