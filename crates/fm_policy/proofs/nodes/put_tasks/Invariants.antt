use Rattle.std.proofs.Common.{ℕ, take}
use Rattle.fm_net.specs.declared.node.Node.TheVariants.{Task}
use Rattle.fm_policy.specs.inner.NetworkSoFar.{Adds, Stands}
use Rattle.fm_policy.proofs.Listed.{HasKey}
use Rattle.fm_policy.proofs.nodes.put_tasks.Given as goal

abbrev pub invariant-loop-entry : goal.invariant-loop-entry
invariant-loop-entry l = record {
  adds : Adds l.knowledge l.fn.network l.network;
  all : (t : ℕ) → HasKey t (take l.entry-index l.tasks) → Stands l.network (Task t);
}
