use Rattle.std.proofs.Common.{ℕ, take}
use Rattle.fm_policy.specs.inner.NetworkSoFar.{Adds, CoversMachine}
use Rattle.fm_policy.proofs.Listed.{HasKey}
use Rattle.fm_policy.proofs.put_arcs.put_machines.Given as goal

abbrev pub invariant-loop-entry : goal.invariant-loop-entry
invariant-loop-entry l = record {
  adds : Adds l.knowledge l.fn.network l.network;
  covers : (m : ℕ) → HasKey m (take l.entry-index l.machines) → CoversMachine l.knowledge m l.network;
}
