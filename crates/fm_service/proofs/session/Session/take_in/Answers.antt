use Rattle.std.proofs.Common.{refl, subst}
use Rattle.fm_world.specs.Worlds.{taken_in}
use Rattle.fm_query.specs.Unpacked.{IsPacketIn}
use Rattle.fm_service.specs.StreamSteps.{at_world, packet_by_ops}
use Rattle.fm_service.proofs.Sessions.{seen_so}
use Rattle.fm_service.proofs.session.Session.take_in.Goals as goal

pub returns-clause-ok : goal.returns-clause-ok
returns-clause-ok c = λ behind stand k here.
    let packet = c.in_ok-packet.packet in
    let sent = packet_by_ops behind packet in
    let stands = c.in_ok-take.ensures.stands k.world sent here.stands (seen_so behind stand packet c.law_can_be.ensures) in (
      at_world k (taken_in k.world c.args.at 0 sent),
      (c.new.ensures.items, record { packet = packet; spelled = subst (λ digits. IsPacketIn digits packet) c.as_bytes.ensures.value c.in_ok-packet.ensures.ok; accepted = c.in_ok-take.ensures.accepted k.world here.stands; is = refl }),
      record { stands = stands; named_is = here.named_is; marks_is = here.marks_is; own_marks_is = here.own_marks_is; stored_marks_is = here.stored_marks_is },
    )
