use Rattle.std.proofs.Common.{refl}
use Rattle.fm_service.specs.StreamSteps.{fresh}
use Rattle.fm_service.specs.Renewing.{renewed_world}
use Rattle.fm_service.proofs.session.Session.renew.Goals as goal

pub returns-clause-ok : goal.returns-clause-ok
returns-clause-ok c = λ behind stand k here.
    (fresh (renewed_world k.world), (c.new-2.ensures.items, refl), c.new.ensures (renewed_world k.world) (c.in_ok-world.ensures.ok k.world here.stands))
