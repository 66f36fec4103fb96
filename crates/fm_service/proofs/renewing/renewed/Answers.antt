use Rattle.std.proofs.Common.{◌∙◌, rules}
use Rattle.fm_service.proofs.Anew.{one_more, for_memory, all_done}
use Rattle.fm_service.proofs.renewing.renewed.Goals as goal

pub loop-coordinator-preserved : goal.loop-coordinator-preserved
loop-coordinator-preserved c = λ w h.
    one_more c.coordinators-coordinator-items.result.now c.args.world.now c.coordinators-coordinator-items.ensures c.known.ensures.reached
    c.loop-coordinator.coordinator-index c.coordinator-item.result c.loop-coordinator-test.true c.coordinator-item.is
    c.value.result (c.value.ensures.number ∙ c.number-number.ensures) c.in_ok-packet.packet c.loop-coordinator.anew w h
    c.in_ok-packet.ensures c.take.new.self (c.loop-coordinator.invariant w h) c.in_ok-take.ensures.stands

pub returns-in_err-take-clause-err : goal.returns-in_err-take-clause-err
returns-in_err-take-clause-err c =
    let memory =
    for_memory c.coordinators-coordinator-items.result.now c.args.world.now c.coordinators-coordinator-items.ensures c.known.ensures.reached
    c.loop-coordinator.coordinator-index c.coordinator-item.result c.loop-coordinator-test.true c.coordinator-item.is
    c.value.result (c.value.ensures.number ∙ c.number-number.ensures) c.in_ok-packet.packet c.loop-coordinator.anew c.loop-coordinator.invariant
    c.in_err-take.field-0.0 c.in_err-take.ensures.err in
    search (rules, memory)

pub returns-clause-ok : goal.returns-clause-ok
returns-clause-ok c = λ w h.
    all_done c.coordinators-coordinator-items.result.now c.args.world.now c.coordinators-coordinator-items.ensures
    c.loop-coordinator.coordinator-index c.loop-coordinator-test.false c.loop-coordinator.anew w h (c.loop-coordinator.invariant w h)
