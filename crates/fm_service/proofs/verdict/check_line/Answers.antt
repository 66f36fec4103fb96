use Rattle.std.proofs.Common.{ap, ◌∙◌}
use Rattle.fm_service.specs.VerdictText.{verdict_text}
use Rattle.fm_service.proofs.Results.{if_ok}
use Rattle.fm_service.proofs.verdict.check_line.Goals as goal

pub returns-clause-ok : goal.returns-clause-ok
returns-clause-ok c = λ k d here is.
    let verdict = c.in_ok-verdict.verdict in
    if_ok c.verdict_text.result (λ text told. (verdict, c.in_ok-verdict.ensures.ok k d here is.asked, told ∙ ap (λ at. verdict_text at verdict) is.at)) c.verdict_text.ensures.ok
