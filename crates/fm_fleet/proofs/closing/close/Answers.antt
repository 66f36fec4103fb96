use Rattle.std.proofs.Common.{refl, arith}
use Rattle.fm_fleet.proofs.closing.close.Goals as goal

pub returns-in-Some-clause-err : goal.returns-in-Some-clause-err
returns-in-Some-clause-err g c =
    let e = c.in-Some.ensures in
    rw (← c.as_slice.ensures.value) (c.in-Some.seat, refl, (e.0, omega (arith, e.1, c.node.view_is), e.2, e.3))

pub take_in-logs-requires-clause-all : goal.take_in-logs-requires-clause-all
take_in-logs-requires-clause-all g c = rw (← c.as_slice.ensures.value) c.in_default.ensures
