use Rattle.std.proofs.Common.{ℕ, subst, sym}
use Rattle.fm_net.specs.Network.{IsNetworkOf}
use Rattle.fm_net.proofs.NetworkLaws.{network_is}
use Rattle.fm_policy.specs.inner.NetworkSoFar.{IsPart}
use Rattle.fm_policy.proofs.Adds.{adds_then}
use Rattle.fm_policy.proofs.Covered.{nodes_still, job_still, machine_still, place_still}
use Rattle.fm_policy.proofs.Finished.{sink_part, is_network}
use Rattle.fm_policy.proofs.build.put_all.Goals as goal

pub returns : goal.returns
returns c =
    let k = c.args.knowledge.now in
    let net = c.put_tasks.new.network in
    let start : IsPart k c.args.network.now = subst (IsPart k) (sym c.requires.empty) (sink_part k) in
    let last = c.in_ok-put_tasks.ensures.adds in
    let from_machines = adds_then k _ _ _ c.in_ok-put_machines.ensures.adds last in
    let from_requests = adds_then k _ _ _ c.in_ok-put_requests.ensures.adds from_machines in
    let from_jobs = adds_then k _ _ _ c.in_ok-put_jobs.ensures.adds from_requests in
    let part = from_jobs.part (c.in_ok-put_nodes.ensures.adds.part start) in
    let nodes = nodes_still k c.put_nodes.new.network net from_jobs.grows c.in_ok-put_nodes.ensures.all in
    let jobs = λ (j : ℕ). job_still k c.put_jobs.new.network net from_requests.grows j (c.in_ok-put_jobs.ensures.covers j) in
    let machines = λ (m : ℕ). machine_still k c.put_machines.new.network net last.grows m (c.in_ok-put_machines.ensures.covers m) in
    let is : IsNetworkOf k net = is_network k net c.in_ok-put_tasks.ensures.covers c.known.ensures nodes jobs machines (λ r waits m. place_still k c.put_requests.new.network net from_machines.grows r m (c.in_ok-put_requests.ensures.covers r waits m)) part in
    (network_is k net).0 is
