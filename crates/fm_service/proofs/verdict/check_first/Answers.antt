use Rattle.std.proofs.Common.{ap, ◌∙◌}
use Rattle.fm_service.specs.VerdictText.{verdict_text}
use Rattle.fm_service.proofs.Results.{if_ok}
use Rattle.fm_service.proofs.verdict.check_first.Goals as goal

pub returns-clause-ok : goal.returns-clause-ok
returns-clause-ok c = λ d is.
    let verdict = c.first_verdict.result in
    if_ok c.verdict_text.result (λ text told. (verdict, c.first_verdict.ensures d is.asked, told ∙ ap (λ at. verdict_text at verdict) is.at)) c.verdict_text.ensures.ok
