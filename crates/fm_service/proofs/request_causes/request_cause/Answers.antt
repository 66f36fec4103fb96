use Rattle.std.proofs.Common.{IfOk, subst}
use Rattle.fm_script.specs.Requests.{Takes}
use Rattle.fm_service.specs.StreamSteps.{RefusesAt, IsVerdict}
use Rattle.fm_service.proofs.request_causes.request_cause.Goals as goal

pub returns-in-Cut-clause-ok : goal.returns-in-Cut-clause-ok
returns-in-Cut-clause-ok c = λ k here. rw c.in-Cut.is (c.cut_request_cause.ensures k here)

pub returns-in-OwnNews-clause-ok : goal.returns-in-OwnNews-clause-ok
returns-in-OwnNews-clause-ok c = λ k here. rw c.in-OwnNews.is (c.own_news_cause.ensures k here)

pub returns-in-Take-clause-ok : goal.returns-in-Take-clause-ok
returns-in-Take-clause-ok c = λ k here.
    rw c.in-Take.is (subst (λ digits. IfOk c.packet_cause.result (IsVerdict (RefusesAt k (Takes c.in-Take.at digits)))) c.deref.ensures (c.packet_cause.ensures.ok k here))
