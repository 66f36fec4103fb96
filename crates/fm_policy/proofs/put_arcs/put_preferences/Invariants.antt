use Rattle.std.proofs.Common.{◌≡◌, ℕ, true, take}
use Rattle.std.specs.Prelude.{is_some}
use Rattle.std.specs.Ordering.{nat_cmp}
use Rattle.fm_lattice.specs.Maps.{lookup}
use Rattle.fm_policy.specs.inner.NetworkSoFar.{Adds, CoversPreferred}
use Rattle.fm_policy.proofs.put_arcs.put_preferences.Given as goal

abbrev pub invariant-loop-entry : goal.invariant-loop-entry
invariant-loop-entry l = record {
  adds : Adds l.knowledge l.fn.network l.network;
  covers : (m : ℕ) → is_some (lookup nat_cmp m (take l.entry-index l.prefer)) ≡ true → CoversPreferred l.knowledge l.task m l.network;
}
