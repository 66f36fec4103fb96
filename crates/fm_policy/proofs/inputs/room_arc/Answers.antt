use Rattle.fm_policy.proofs.RoomLaws.{spare_fits}
use Rattle.fm_policy.proofs.inputs.room_arc.Goals as goal

pub on-requires : goal.on-requires
on-requires c = spare_fits c.args.knowledge.now c.args.request c.args.machine c.args.opened.now c.requires c.law_can_be.ensures
