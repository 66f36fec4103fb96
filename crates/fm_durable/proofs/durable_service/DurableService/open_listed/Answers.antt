use Rattle.fm_durable.specs.DurableServices.{model_of}
use Rattle.fm_durable.proofs.Surviving.{keeps_none}
use Rattle.fm_durable.proofs.durable_service.DurableService.open_listed.Goals as goal

pub returns-then-was_open-clause-keeps : goal.returns-then-was_open-clause-keeps
returns-then-was_open-clause-keeps g c = keeps_none (model_of g.D.Device.content g.D.Device.synced g.D.Device.sound c.args.self.now.device)
