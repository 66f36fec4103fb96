use Rattle.std.specs.Prelude.{◌≡◌, ◌<◌, ℕ, slice_get, Some}
use Rattle.fm_fleet.specs.declared.seat.SeatLog.{SeatLog}
use Rattle.fm_fleet.proofs.audit.is_listed.Given as goal

abbrev pub invariant-loop-log : goal.invariant-loop-log
invariant-loop-log l = (i : ℕ) (x : SeatLog) → i < l.log-index → slice_get l.logs i ≡ Some x → ¬ (x.seat ≡ l.seat)
