use Rattle.std.proofs.Common.{ℕ, take}
use Rattle.fm_records.specs.Sets.{IsMember}
use Rattle.fm_net.specs.declared.node.Node.TheVariants.{Request}
use Rattle.fm_policy.specs.inner.NetworkSoFar.{Adds, Stands}
use Rattle.fm_policy.proofs.nodes.put_requests.Given as goal

abbrev pub invariant-loop-request : goal.invariant-loop-request
invariant-loop-request l = record {
  adds : Adds l.knowledge l.fn.network l.network;
  all : (r : ℕ) → IsMember r (take l.request-index l.inputs.requests.items) → Stands l.network (Request r);
}
