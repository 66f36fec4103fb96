use Rattle.std.proofs.Common.{ℕ, List, None, Some, refl, sym, subst, inl, inr}
use Rattle.fm_records.specs.declared.refusal.Refusal.{Refusal}
use Rattle.fm_script.specs.declared.request.StreamLine.{StreamLine}
use Rattle.fm_script.specs.Requests.{Requests, RequestsNothing, request_model}
use Rattle.fm_script.specs.StreamLines.{Checks, IsStreamLine}
use Rattle.fm_io.specs.Replies.{refusal_reply}
use Rattle.fm_service.specs.StreamSteps.{IsRefused}
use Rattle.fm_service.specs.Sessions.{IsIn}
use Rattle.fm_service.proofs.Results.{if_ok, if_err, returned}
use Rattle.fm_service.proofs.stream_service.StreamService.begin.Goals as goal

pub returns-in_err-checked-clause-err : goal.returns-in_err-checked-clause-err
returns-in_err-checked-clause-err c =
    let nothing = subst (λ (names : List (List ℕ)). RequestsNothing names c.args.line.now c.in_err-checked.field-0.0) c.new.ensures c.in_err-checked.ensures.err in
    returned c.from_residual.result c.from_residual.ensures.1
    (λ e same. subst (λ (x : Refusal). IsRefused None c.args.line.now (refusal_reply x) None) (sym same)
    (record { refusal = c.in_err-checked.field-0.0; cause = inl nothing; is = refl; same = refl }))

pub returns-in-Check-clause-ok : goal.returns-in-Check-clause-ok
returns-in-Check-clause-ok c = λ behind.
    let line = subst (λ (l : StreamLine). IsStreamLine c.new.result c.args.line.now l) c.in-Check.is c.in_ok-checked.ensures.ok in
    let asked = subst (λ (names : List (List ℕ)). Checks names c.args.line.now c.in-Check.checked) c.new.ensures line in
    if_ok c.check_first.result
    (λ text tells. (
      None,
      inr (inr (record { value = asked.value; read = asked.read; inner = asked.checks.line; checks = asked.checks.checked; text = text.items; tells = tells; is = refl; same = refl })),
      subst (λ o. IsIn o None) (sym c.requires) tt,
    ))
    (c.check_first.ensures.ok asked.checks.line asked.checks.is)

pub returns-clause-ok : goal.returns-clause-ok
returns-clause-ok c = λ behind.
    let asked = request_model c.in-Request.request in
    let line = subst (λ (l : StreamLine). IsStreamLine c.new.result c.args.line.now l) c.in-Request.is c.in_ok-checked.ensures.ok in
    let requests = subst (λ (names : List (List ℕ)). Requests names c.args.line.now asked) c.new.ensures line in
    if_ok c.open.result
    (λ text went. (
      Some went.0,
      inl (record { asked = asked; requests = requests; text = text.items; made = Some went.0; does = went.1; settles = inl refl; is = refl }),
      went.2,
    ))
    (c.open.ensures.ok behind)

pub returns-clause-err : goal.returns-clause-err
returns-clause-err c =
    let asked = request_model c.in-Request.request in
    let line = subst (λ (l : StreamLine). IsStreamLine c.new.result c.args.line.now l) c.in-Request.is c.in_ok-checked.ensures.ok in
    let requests = subst (λ (names : List (List ℕ)). Requests names c.args.line.now asked) c.new.ensures line in
    if_err c.open.result (λ e why. record { refusal = e; cause = inr (asked, requests, why); is = refl; same = refl }) c.open.ensures.err
