use Rattle.std.proofs.Common.{◌∙◌}
use Rattle.fm_world.specs.declared.step.Act.TheVariants as act
use Rattle.fm_service.proofs.StepCauses.{nobody, no_packet_there, packet_there}
use Rattle.fm_service.proofs.causes.delivery_cause.Goals as goal

pub returns-in_default : goal.returns-in_default
returns-in_default c = λ w h. nobody c.args.world.now w c.args.at h c.in_default.ensures (act.Deliver c.args.number)

pub returns-in-None : goal.returns-in-None
returns-in-None c = λ w h. no_packet_there c.args.world.now w c.args.at h c.in-Some.coordinator.now.state c.in-Some.ensures c.args.number c.in-None.ensures

pub returns-in-Some-packet : goal.returns-in-Some-packet
returns-in-Some-packet c = λ w h.
    c.room_cause.ensures
    ∙ packet_there c.args.world.now w c.args.at h c.in-Some.coordinator.now.state c.in-Some.ensures c.args.number c.in-Some-packet.field-0.now c.in-Some-packet.ensures
