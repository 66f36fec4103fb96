use Rattle.std.specs.Prelude.{ℕ, ◌+◌, ◌<◌}
use Rattle.fm_fleet.specs.Seats.{HasSeat}
use Rattle.fm_fleet.proofs.closing.missing.Given as goal

abbrev pub invariant-loop-k : goal.invariant-loop-k
invariant-loop-k g l = (j : ℕ) → j < l.k → HasSeat (j + 1) l.seats
