use Rattle.std.proofs.Common.{ℕ, List, Some, refl, sym, ap, ◌∙◌, subst, inl, inr}
use Rattle.fm_records.specs.declared.refusal.Refusal.{Refusal}
use Rattle.fm_script.specs.Requests.{Requests, RequestsNothing, request_model}
use Rattle.fm_script.specs.declared.request.StreamLine.{StreamLine}
use Rattle.fm_script.specs.StreamLines.{Checks, IsStreamLine}
use Rattle.fm_io.specs.Replies.{refusal_reply}
use Rattle.fm_service.specs.StreamSteps.{Named, IsRefused}
use Rattle.fm_service.proofs.Results.{if_ok, returned}
use Rattle.fm_service.proofs.Sessions.{accepts}
use Rattle.fm_service.proofs.session.Session.answer.Goals as goal

pub returns-in_err-request-clause-err : goal.returns-in_err-request-clause-err
returns-in_err-request-clause-err c = λ k here.
    let names = c.names.ensures ∙ ap (λ (n : Named). n.names) here.named_is in
    let nothing = subst (λ (ns : List (List ℕ)). RequestsNothing ns c.args.line.now c.in_err-request.field-0.0) names c.in_err-request.ensures.err in
    returned c.from_residual.result c.from_residual.ensures.1
    (λ e same. subst (λ (x : Refusal). IsRefused (Some k) c.args.line.now (refusal_reply x) (Some k)) (sym same)
    (record { refusal = c.in_err-request.field-0.0; cause = inl nothing; is = refl; same = refl }))

pub returns-in-Check-clause-ok : goal.returns-in-Check-clause-ok
returns-in-Check-clause-ok c = λ behind stand k here.
    let names = c.names.ensures ∙ ap (λ (n : Named). n.names) here.named_is in
    let line = subst (λ (l : StreamLine). IsStreamLine c.names.result.now c.args.line.now l) c.in-Check.is c.in_ok-request.ensures.ok in
    let asked = subst (λ (ns : List (List ℕ)). Checks ns c.args.line.now c.in-Check.checked) names line in
    if_ok c.check_line.result
    (λ text tells. (
      k,
      inr (inr (record { value = asked.value; read = asked.read; inner = asked.checks.line; checks = asked.checks.checked; text = text.items; tells = tells; is = refl; same = refl })),
      here,
    ))
    (c.check_line.ensures.ok k asked.checks.line here asked.checks.is)

pub returns-clause-ok : goal.returns-clause-ok
returns-clause-ok c = λ behind stand k here.
    let names = c.names.ensures ∙ ap (λ (n : Named). n.names) here.named_is in
    let asked = request_model c.in-Request.request in
    let line = subst (λ (l : StreamLine). IsStreamLine c.names.result.now c.args.line.now l) c.in-Request.is c.in_ok-request.ensures.ok in
    let requests = subst (λ (ns : List (List ℕ)). Requests ns c.args.line.now asked) names line in
    let went = c.in_ok-text.ensures.ok behind stand k here in
    accepts c.args.most behind c.execute.new.self c.settle.new.self k went.0 c.args.line.now c.in_ok-text.text.items asked requests went.1 went.2
    (c.settle.ensures went.0 went.2)
