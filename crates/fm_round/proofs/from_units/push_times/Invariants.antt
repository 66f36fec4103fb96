use Rattle.std.proofs.Common.{◌≡◌, ◌-◌, ◌++◌}
use Rattle.std.specs.Prelude.{replicate}
use Rattle.fm_round.proofs.from_units.push_times.Given as goal

abbrev pub invariant-loop-i : goal.invariant-loop-i
invariant-loop-i l = l.seats.items ++ replicate (l.times - l.i) l.seat ≡ l.fn.seats.items ++ replicate l.times l.seat
