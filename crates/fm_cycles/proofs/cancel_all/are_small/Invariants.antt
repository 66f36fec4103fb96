use Rattle.std.proofs.Common.{◌<◌, ◌^◌, ℕ}
use Rattle.std.specs.Prelude.{◌≤ℤ◌, neg_ℤ, pos}
use Rattle.fm_cycles.specs.Found.{costs_in}
use Rattle.fm_cycles.proofs.cancel_all.are_small.Given as goal

abbrev pub invariant-loop-node : goal.invariant-loop-node
invariant-loop-node l = (v : ℕ) → v < l.node → (neg_ℤ (pos (2 ^ 64)) ≤ℤ costs_in l.costs v) × (costs_in l.costs v ≤ℤ pos (2 ^ 64))
