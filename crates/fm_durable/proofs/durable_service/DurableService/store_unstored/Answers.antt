use Rattle.std.proofs.lemmas.Result.{err_from_is_err_and}
use Rattle.fm_durable.specs.DurableServices.{model_of}
use Rattle.fm_durable.proofs.Appending.{front_none}
use Rattle.fm_durable.proofs.durable_service.DurableService.store_unstored.Goals as goal

pub returns-in-Some-clause-err : goal.returns-in-Some-clause-err
returns-in-Some-clause-err g c = front_none (model_of g.D.Device.content g.D.Device.synced g.D.Device.sound c.args.self.now.device)

pub returns-in_err-packets-clause-err : goal.returns-in_err-packets-clause-err
returns-in_err-packets-clause-err g c = λ head ps h.
    let p = err_from_is_err_and c.from_residual.result c.from_residual.ensures.1 in
    rw p.1 (front_none (model_of g.D.Device.content g.D.Device.synced g.D.Device.sound c.args.self.now.device) head ps h)
