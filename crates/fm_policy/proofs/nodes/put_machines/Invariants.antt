use Rattle.std.proofs.Common.{ℕ, take}
use Rattle.fm_net.specs.declared.node.Node.TheVariants.{Machine}
use Rattle.fm_policy.specs.inner.NetworkSoFar.{Adds, Stands}
use Rattle.fm_policy.proofs.Listed.{HasKey}
use Rattle.fm_policy.proofs.nodes.put_machines.Given as goal

abbrev pub invariant-loop-entry : goal.invariant-loop-entry
invariant-loop-entry l = record {
  adds : Adds l.knowledge l.fn.network l.network;
  all : (m : ℕ) → HasKey m (take l.entry-index l.machines) → Stands l.network (Machine m);
}
