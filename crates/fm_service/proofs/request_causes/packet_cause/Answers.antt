use Rattle.std.proofs.Common.{None, subst}
use Rattle.fm_query.specs.Unpacked.{IsFaultOf}
use Rattle.fm_service.proofs.Verdicts.{of_packet}
use Rattle.fm_service.proofs.request_causes.packet_cause.Goals as goal

pub returns-in-None-clause-ok : goal.returns-in-None-clause-ok
returns-in-None-clause-ok c = λ k here.
    let fault = subst (IsFaultOf c.as_bytes.result.now) c.in-None.is c.in_ok-refusal.ensures.ok in
    let encodes = subst (λ digits. IsFaultOf digits None) c.as_bytes.ensures.value fault in
    of_packet k c.args.at c.args.digits.now encodes c.entry_cause.result (c.entry_cause.ensures k.world here.stands)
