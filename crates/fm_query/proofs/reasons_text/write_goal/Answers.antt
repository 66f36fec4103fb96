use Rattle.std.proofs.Common.{◌++◌, ◌∙◌, ap, sym, codes, string_bytes}
use Rattle.fm_query.specs.ReasonsText.{goal_text}
use Rattle.fm_query.proofs.reasons_text.write_goal.Goals as goal

pub returns-in_ok-write-in-Machine-clause-ok : goal.returns-in_ok-write-in-Machine-clause-ok
returns-in_ok-write-in-Machine-clause-ok c =
    let old = string_bytes c.args.lines.now in
    c.in_ok-write-in-Machine.ensures.bytes ∙ ap (λ name. old ++ (codes " runs on machine " ++ name)) c.in_ok-name-in-Machine.ensures.ok ∙ ap (λ to. old ++ goal_text to) (sym c.in-Machine.is)
