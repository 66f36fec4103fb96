use Rattle.fm_serve.proofs.Stored.{stored}
use Rattle.fm_serve.proofs.stored_stream.follow_with_store.Goals as goal

pub returns : goal.returns
returns g c = stored _ _ _ _ _ _ _ _ _ c.in-Ok.ensures.ok c.ending_of.ensures c.follow_durable-device.ensures
