use Rattle.fm_io.specs.Replies.{refusal_reply}
use Rattle.std.proofs.lemmas.Result.{err_from_is_err_and}
use Rattle.fm_durable.specs.DurableServices.{model_of}
use Rattle.fm_durable.proofs.Refusing.{refused}
use Rattle.fm_durable.proofs.durable_service.DurableServiceResponder.answer.Goals as goal

pub returns-in_err-text : goal.returns-in_err-text
returns-in_err-text g c =
    let model = model_of g.D.Device.content g.D.Device.synced g.D.Device.sound in
    let e = c.in_err-text.field-0.0 in
    let p = err_from_is_err_and c.from_residual.result c.from_residual.ensures.1 in
    rw (p.1, p.2)
    (refused model c.args.self.now c.args.line.now (refusal_reply e) c.answer.new.self c.in_err-text.ensures.1 c.in_err-text.ensures.0)
