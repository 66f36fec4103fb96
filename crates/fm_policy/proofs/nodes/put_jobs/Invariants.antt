use Rattle.std.proofs.Common.{ℕ, take}
use Rattle.fm_net.specs.declared.node.Node.TheVariants.{Unscheduled}
use Rattle.fm_policy.specs.inner.NetworkSoFar.{Adds, HasNode}
use Rattle.fm_policy.proofs.Listed.{HasKey}
use Rattle.fm_policy.proofs.nodes.put_jobs.Given as goal

abbrev pub invariant-loop-entry : goal.invariant-loop-entry
invariant-loop-entry l = record {
  adds : Adds l.knowledge l.fn.network l.network;
  all : (j : ℕ) → HasKey j (take l.entry-index l.jobs) → HasNode l.knowledge (Unscheduled j) l.network;
}
