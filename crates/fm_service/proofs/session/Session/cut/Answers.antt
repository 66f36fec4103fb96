use Rattle.std.proofs.Common.{refl}
use Rattle.fm_service.specs.StreamSteps.{at_world}
use Rattle.fm_service.proofs.Results.{if_ok}
use Rattle.fm_service.proofs.session.Session.cut.Goals as goal

pub returns-clause-ok : goal.returns-clause-ok
returns-clause-ok c = λ behind stand k here.
    if_ok c.cut.result
    (λ text h. (at_world k h.0, (h.0, h.1, refl), record { stands = h.2; named_is = here.named_is; marks_is = here.marks_is; own_marks_is = here.own_marks_is; stored_marks_is = here.stored_marks_is }))
    (c.cut.ensures.ok k.world here.stands)
