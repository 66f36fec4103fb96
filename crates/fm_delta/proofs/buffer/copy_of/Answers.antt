use Rattle.fm_delta.proofs.Joined.{one}
use Rattle.fm_delta.proofs.buffer.copy_of.Goals as goal

pub returns : goal.returns
returns c = one c.copy.result c.args.delta.now c.known.ensures c.copy.ensures
