use Rattle.fm_service.proofs.Anew.{all_numbers}
use Rattle.fm_service.proofs.storing.numbers_of.Goals as goal

pub returns : goal.returns
returns c = λ k h.
    all_numbers c.coordinators-coordinator-items.result.now c.args.session.now.world c.coordinators-coordinator-items.ensures
    c.loop-coordinator.coordinator-index c.loop-coordinator-test.false c.loop-coordinator.numbers.items c.loop-coordinator.invariant k.world h.stands
