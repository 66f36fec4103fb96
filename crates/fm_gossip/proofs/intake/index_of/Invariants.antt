use Rattle.std.specs.Prelude.{◌≡◌, ℕ, ◌<◌, slice_get, Some}
use Rattle.fm_gossip.proofs.intake.index_of.Given as goal

abbrev pub invariant-loop-i : goal.invariant-loop-i
invariant-loop-i l = (j : ℕ) → j < l.i → ¬ (slice_get l.awaited j ≡ Some l.packet.sender)
