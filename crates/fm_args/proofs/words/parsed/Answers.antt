use Rattle.std.proofs.Common.{◌∙◌, map, string_bytes}
use Rattle.clap.specs.Words.{kind_of}
use Rattle.fm_args.proofs.Hearing.{taken_heard, text_heard}
use Rattle.fm_args.proofs.Parsing.{of_error, of_matches}
use Rattle.fm_args.proofs.words.parsed.Goals as goal

pub returns-in-Ok : goal.returns-in-Ok
returns-in-Ok c no_page =
    let all = map string_bytes c.args.words.now in
    let may = of_matches c.in_ok-parser.field-0 all c.in-Ok.matches c.in_ok-parser.ensures c.in-Ok.ensures.matches c.in-Ok.ensures.kinds in
    c.named.ensures ∙ taken_heard all _ may.0 may.1

pub returns-in-Err : goal.returns-in-Err
returns-in-Err c no_page =
    let all = map string_bytes c.args.words.now in
    text_heard all (kind_of c.in-Err.error) c.text_of.result no_page (of_error c.in_ok-parser.field-0 all c.in-Err.error c.in_ok-parser.ensures c.in-Err.ensures.kinds) c.text_of.ensures.told c.text_of.ensures.memory
