-- Refusals that a coordinator may answer.
use Rattle.std.proofs.Common.{◌≡◌, inr}
use Rattle.fm_records.specs.declared.refusal.Refusal.{Refusal}
use Rattle.fm_coord.specs.declared.entry.Call.{Call}
use Rattle.fm_coord.specs.Causes.{Bounds, refusal_for}
use Rattle.fm_fleet.specs.Seats.{MayRefuse}

pub may_refuse : (b : Bounds) (call : Call) (r : Refusal) → r ≡ refusal_for b call → MayRefuse call r
may_refuse b call r is = inr (b, is)
