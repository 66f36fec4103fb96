use Rattle.std.proofs.Common.{◌++◌, ◌∙◌, ap, ap₂, sym, codes, string_bytes, append-nil, append_assoc}
use Rattle.std.proofs.lemmas.Slice.Zip.{either_empty_from_Zip, Zip-more}
use Rattle.std.specs.Iterator.Adapters.{zip_first, zip_second}
use Rattle.std.specs.List.{zip}
use Rattle.std.specs.Slice.Iter.{iter_rest}
use Rattle.fm_query.specs.TextLines.{text_of_lines}
use Rattle.fm_query.specs.ReasonsText.{choice_text}
use Rattle.fm_query.proofs.Zipped.{none_left}
use Rattle.fm_query.proofs.reasons_text.write_listed.Goals as goal

pub loop-choice-preserved : goal.loop-choice-preserved
loop-choice-preserved c =
    let least = c.args.choices.now.least in
    let text = text_of_lines (choice_text least) in
    let now = c.loop-choice.choice-iterator in
    let left = c.next.new.self in
    let line = choice_text least (c.in-Some.choice.now, c.in-Some.found.now) in
    let before = string_bytes c.loop-choice.lines in
    let more = Zip-more now left c.next.result (c.in-Some.choice, c.in-Some.found) c.in-Some.is c.next.ensures.steps in
    let rest = text (zip (iter_rest (zip_first left)) (iter_rest (zip_second left))) in
    let told = c.in_ok-push_str.ensures.bytes ∙ ap (λ b. b ++ codes "\n") c.in_ok-write_choice.ensures.ok ∙ append_assoc before line (codes "\n") in
    c.loop-choice.invariant
    ∙ ap₂ (λ choices found. before ++ text (zip choices found)) more.0 more.1
    ∙ sym (append_assoc before (line ++ codes "\n") rest)
    ∙ ap (λ b. b ++ rest) (sym told)

pub returns-clause-ok : goal.returns-clause-ok
returns-clause-ok c =
    let left = c.loop-choice.choice-iterator in
    let text = text_of_lines (choice_text c.args.choices.now.least) in
    let lines = string_bytes c.loop-choice.lines in
    sym (c.loop-choice.invariant
    ∙ ap (λ es. lines ++ text es) (none_left (iter_rest (zip_first left)) (iter_rest (zip_second left)) (either_empty_from_Zip left c.next.new.self c.next.result c.in-None.is c.next.ensures.steps))
    ∙ append-nil lines)
