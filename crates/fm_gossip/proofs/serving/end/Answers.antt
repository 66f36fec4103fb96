use Rattle.std.proofs.Common.{sym, ◌∙◌, arith}
use Rattle.fm_gossip.proofs.Ending.{ended, none_missing}
use Rattle.fm_gossip.proofs.serving.end.Goals as goal

pub returns-clause-ended : goal.returns-clause-ended
returns-clause-ended g c = λ none.
    let closed = c.in-Ok.closed in
    let close = c.in-Ok.ensures in
    let its = c.fault_of-fault.ensures.none none in
    ended c.args.number c.args.limit closed.base c.args.seats.items closed.logs.items closed.coordinator.state its.0 its.1 (close.base ∙ sym c.requires.base) close.logs close.numbered.0
    (omega (arith, close.numbered.1, c.requires.parts, closed.logs.ok)) its.2

pub unreachable-requires : goal.unreachable-requires
unreachable-requires g c = let kept = c.in-Err.ensures.err in none_missing _ _ kept.0 c.requires.parts c.requires.seats kept.2
