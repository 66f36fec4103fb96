use Rattle.std.proofs.Common.{◌∙◌, subst}
use Rattle.fm_question.specs.declared.question.Question.TheVariants as question
use Rattle.fm_query.specs.NextText.{IsNoNext}
use Rattle.fm_service.specs.StreamSteps.{IsVerdict}
use Rattle.fm_service.proofs.Results.{if_ok}
use Rattle.fm_service.proofs.Steps.{nobody_asked, here}
use Rattle.fm_service.proofs.Verdicts.{unknown, of_question, answered}
use Rattle.fm_service.proofs.request_causes.question_cause.Goals as goal

pub returns-in_default-clause-ok : goal.returns-in_default-clause-ok
returns-in_default-clause-ok c = λ k h. (nobody_asked c.args.session.now.world k.world c.args.at h.stands c.in_default.ensures c.args.question, unknown)

pub returns-in-Next-clause-ok : goal.returns-in-Next-clause-ok
returns-in-Next-clause-ok c = λ k h.
    let there = here c.args.session.now.world k.world c.args.at h.stands c.in-Some.coordinator.now.state c.in-Some.ensures in
    let subject = c.in-Next.subject in
    rw c.in-Next.is (
    if_ok c.next_cause.result
    (λ cause v. of_question k c.args.at there.replica there.at (question.Next subject) cause (subst (λ t. IsVerdict (IsNoNext t subject) cause) (c.knowledge.ensures ∙ there.stands.knowledge) v))
    c.next_cause.ensures.ok)

pub returns-in_default-question : goal.returns-in_default-question
returns-in_default-question c = record {
  ok = λ k h.
      let there = here c.args.session.now.world k.world c.args.at h.stands c.in-Some.coordinator.now.state c.in-Some.ensures in
      answered k c.args.at there.replica there.at c.args.question c.in_default-question.not-Next;
  err = tt;
}
