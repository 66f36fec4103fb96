use Rattle.std.proofs.Common.{◌≡◌, ◌++◌, List, ℕ, length}
use Rattle.fm_store.specs.Tails.{AreZeros}
use Rattle.fm_store.proofs.frames.without_zeros.Given as goal

abbrev pub invariant-loop-front : goal.invariant-loop-front
invariant-loop-front l = (zeros : List ℕ) × (l.bytes ≡ l.written ++ zeros) × AreZeros zeros

abbrev pub decreases-loop-front : goal.decreases-loop-front
decreases-loop-front l = length l.written
