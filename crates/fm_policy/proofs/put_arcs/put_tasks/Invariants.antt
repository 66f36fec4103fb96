use Rattle.std.proofs.Common.{ℕ, take}
use Rattle.fm_policy.specs.inner.NetworkSoFar.{Adds, CoversTask}
use Rattle.fm_policy.proofs.Listed.{HasKey}
use Rattle.fm_policy.proofs.put_arcs.put_tasks.Given as goal

abbrev pub invariant-loop-entry : goal.invariant-loop-entry
invariant-loop-entry l = record {
  adds : Adds l.knowledge l.fn.network l.network;
  covers : (t : ℕ) → HasKey t (take l.entry-index l.tasks) → CoversTask l.knowledge t l.network;
}
