use Rattle.std.specs.Prelude.{◌≡◌, ◌<◌, ℕ, slice_get, Some}
use Rattle.fm_coord.specs.declared.entry.Entry.{Entry}
use Rattle.fm_fleet.specs.Audits.{IsListed}
use Rattle.fm_fleet.proofs.audit.first_strange.Given as goal

abbrev pub invariant-loop-entry : goal.invariant-loop-entry
invariant-loop-entry l = (i : ℕ) (e : Entry) → i < l.entry-index → slice_get l.made i ≡ Some e → IsListed l.logs e.by
