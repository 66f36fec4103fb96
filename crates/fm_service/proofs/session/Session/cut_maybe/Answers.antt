use Rattle.std.proofs.Common.{sym, subst}
use Rattle.fm_records.specs.OpsOfTable.{ops}
use Rattle.fm_service.specs.StreamSteps.{Following, CutsMaybe}
use Rattle.fm_service.specs.Sessions.{SessionAt}
use Rattle.fm_service.proofs.Results.{if_ok, if_err}
use Rattle.fm_service.proofs.Sessions.{spelled}
use Rattle.fm_service.proofs.session.Session.cut_maybe.Goals as goal

pub returns-in-Some-clause-ok : goal.returns-in-Some-clause-ok
returns-in-Some-clause-ok c = λ k h.
    if_ok c.cut.result (λ text went. (went.1.0, subst (λ o. CutsMaybe k.world c.args.at o text.items went.1.0) (sym c.in-Some.is) went.1.1, subst (λ (j : Following). SessionAt c.cut.new.self j) went.1.2 went.2))
    (c.cut.ensures.ok (λ p. ops p.value) spelled k h)

pub returns-in-Some-clause-err : goal.returns-in-Some-clause-err
returns-in-Some-clause-err c = λ k h. if_err c.cut.result (λ e is. (c.in-Some.range, c.in-Some.is, is)) (c.cut.ensures.err k h)
