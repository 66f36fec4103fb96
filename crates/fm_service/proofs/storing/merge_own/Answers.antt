use Rattle.std.proofs.Common.{subst}
use Rattle.fm_world.specs.Worlds.{taken_in}
use Rattle.fm_world.specs.Represents.{WorldRepresents}
use Rattle.fm_world.proofs.Taking.{on_ok}
use Rattle.fm_service.specs.StreamSteps.{packet_by_ops}
use Rattle.fm_service.proofs.Sessions.{seen_so}
use Rattle.fm_service.proofs.storing.merge_own.Goals as goal

pub returns-clause-ok : goal.returns-clause-ok
returns-clause-ok c = λ behind stand k h.
    let packet = c.args.packet in
    let sent = packet_by_ops behind packet in
    on_ok c.take.result
    (λ stands. record {
      stands = subst (λ at. WorldRepresents c.take.new.self (taken_in k.world at 0 sent)) c.value.ensures.number stands;
      named_is = h.named_is;
      marks_is = h.marks_is;
      own_marks_is = h.own_marks_is;
      stored_marks_is = h.stored_marks_is;
    })
    (c.take.ensures.stands k.world sent h.stands (seen_so behind stand packet c.law_can_be.ensures))
