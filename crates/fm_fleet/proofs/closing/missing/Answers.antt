use Rattle.std.proofs.Common.{◌+◌}
use Rattle.fm_fleet.specs.Seats.{HasSeat}
use Rattle.fm_fleet.proofs.Seating.{up_to}
use Rattle.fm_fleet.proofs.closing.missing.Goals as goal

pub loop-k-preserved : goal.loop-k-preserved
loop-k-preserved g c = up_to (λ j. HasSeat (j + 1) c.args.seats.now) c.loop-k.k c.loop-k.invariant (c.in-Some.field-0, c.in-Some.ensures.0, c.in-Some.ensures.1, c.in-Some.ensures.2)
