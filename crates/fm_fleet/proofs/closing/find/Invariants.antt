use Rattle.std.specs.Prelude.{◌≡◌, ℕ, ◌<◌, slice_get, Some}
use Rattle.fm_fleet.specs.Seats.{SeatModel}
use Rattle.fm_fleet.proofs.closing.find.Given as goal

abbrev pub invariant-loop-i : goal.invariant-loop-i
invariant-loop-i g l = (j : ℕ) (s : SeatModel) → j < l.i → slice_get l.seats j ≡ Some s → ¬ (s.number ≡ l.number)
