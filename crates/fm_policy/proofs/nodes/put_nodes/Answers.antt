use Rattle.fm_policy.proofs.Adds.{adds_then}
use Rattle.fm_policy.proofs.nodes.put_nodes.Goals as goal

pub returns-clause-adds : goal.returns-clause-adds
returns-clause-adds c =
    let k = c.args.knowledge.now in
    adds_then k _ _ _ c.in_ok-put_jobs.ensures.adds
    (adds_then k _ _ _ c.in_ok-put_requests.ensures.adds
    (adds_then k _ _ _ c.in_ok-put_machines.ensures.adds c.in_ok-put_tasks.ensures.adds))
