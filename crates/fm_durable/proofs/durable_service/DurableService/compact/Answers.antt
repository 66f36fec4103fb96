use Rattle.fm_durable.proofs.durable_service.DurableService.compact.Goals as goal

pub returns-in-Ok-clause-ok : goal.returns-in-Ok-clause-ok
returns-in-Ok-clause-ok g c = c.in-Ok.ensures.ok c.args.packets.now
