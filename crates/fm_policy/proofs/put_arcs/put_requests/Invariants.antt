use Rattle.std.proofs.Common.{ℕ, take}
use Rattle.fm_records.specs.Sets.{IsMember}
use Rattle.fm_policy.specs.inner.NetworkSoFar.{Adds, CoversPlace}
use Rattle.fm_policy.proofs.put_arcs.put_requests.Given as goal

abbrev pub invariant-loop-request : goal.invariant-loop-request
invariant-loop-request l = record {
  adds : Adds l.knowledge l.fn.network l.network;
  covers : (r : ℕ) → IsMember r (take l.request-index l.inputs.requests.items) → (m : ℕ) → CoversPlace l.knowledge r m l.network;
}
