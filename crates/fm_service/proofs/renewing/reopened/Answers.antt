use Rattle.std.proofs.Common.{◌∙◌, IfOk, subst}
use Rattle.fm_world.specs.Worlds.{WorldOfSets}
use Rattle.fm_world.specs.Represents.{WorldRepresents}
use Rattle.fm_service.proofs.Anew.{listed_distinct, same_opening}
use Rattle.fm_service.proofs.renewing.reopened.Goals as goal

pub open-requires : goal.open-requires
open-requires c =
    listed_distinct c.coordinators-coordinator-items.result.now c.args.world.now c.coordinators-coordinator-items.ensures
    c.loop-coordinator.coordinator-index c.loop-coordinator-test.false c.deref.result.now (c.deref.ensures.value ∙ c.loop-coordinator.invariant)
    c.known.ensures.reached

pub returns : goal.returns
returns c = λ w h.
    subst (λ (v : WorldOfSets). IfOk c.open.result (λ anew. WorldRepresents anew v))
    (same_opening c.coordinators-coordinator-items.result.now c.args.world.now c.coordinators-coordinator-items.ensures
    c.loop-coordinator.coordinator-index c.loop-coordinator-test.false c.deref.result.now (c.deref.ensures.value ∙ c.loop-coordinator.invariant) w h)
    c.open.ensures
