use Rattle.fm_round.proofs.Pairing.{waits_apart}
use Rattle.fm_round.proofs.from_units.plan_of.Goals as goal

pub places_of-requires : goal.places_of-requires
places_of-requires c = waits_apart c.args.flow.now c.requires
