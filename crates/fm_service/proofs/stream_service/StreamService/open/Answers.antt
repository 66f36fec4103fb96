use Rattle.std.proofs.Common.{ℕ, List, refl, subst}
use Rattle.fm_world.specs.Represents.{WorldRepresents}
use Rattle.fm_script.specs.Openings.{new_world}
use Rattle.fm_service.specs.StreamSteps.{fresh}
use Rattle.fm_service.proofs.Sessions.{too_early}
use Rattle.fm_service.proofs.stream_service.StreamService.open.Goals as goal

pub returns-in-Open-clause-ok : goal.returns-in-Open-clause-ok
returns-in-Open-clause-ok c = λ behind.
    let listed = c.in-Open.listed.items in
    let stands = subst (λ (l : List ℕ). WorldRepresents c.in_ok-world-in-Open.world (new_world l)) c.deref.ensures.value c.in_ok-world-in-Open.ensures in
    rw c.in-Open.is (fresh (new_world listed), (c.new-in-Open.ensures.items, refl), c.new.ensures (new_world listed) stands)

pub returns-clause-err : goal.returns-clause-err
returns-clause-err c = too_early c.args.request c.in_default.not-Open
