use Rattle.std.proofs.Common.{ℕ, take}
use Rattle.fm_policy.specs.inner.NetworkSoFar.{Adds, CoversJob}
use Rattle.fm_policy.proofs.Listed.{HasKey}
use Rattle.fm_policy.proofs.put_arcs.put_jobs.Given as goal

abbrev pub invariant-loop-entry : goal.invariant-loop-entry
invariant-loop-entry l = record {
  adds : Adds l.knowledge l.fn.network l.network;
  covers : (j : ℕ) → HasKey j (take l.entry-index l.jobs) → CoversJob l.knowledge j l.network;
}
