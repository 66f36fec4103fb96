use Rattle.std.specs.Prelude.{◌≡◌, ◌↔◌, drop}
use Rattle.fm_fleet.specs.Audits.{of_seat}
use Rattle.fm_fleet.proofs.audit.is_log.Given as goal

abbrev pub invariant-loop-entry : goal.invariant-loop-entry
invariant-loop-entry l = (of_seat l.seat l.made ≡ l.log) ↔ (of_seat l.seat (drop l.entry-index l.made) ≡ l.rest)
