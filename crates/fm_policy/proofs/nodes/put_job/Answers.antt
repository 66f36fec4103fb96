use Rattle.std.proofs.Common.{◌≤◌, arith, subst}
use Rattle.fm_net.specs.declared.node.Node.TheVariants.{Unscheduled}
use Rattle.fm_policy.proofs.Adds.{adds_node}
use Rattle.fm_policy.proofs.Counted.{job_counted, job_counts}
use Rattle.fm_policy.proofs.nodes.put_job.Goals as goal

pub returns-in_ok-put_node-clause-adds : goal.returns-in_ok-put_node-clause-adds
returns-in_ok-put_node-clause-adds c =
    let k = c.args.knowledge.now in
    let j = c.args.job in
    let some : 1 ≤ c.args.live = omega (arith, c.if-live-gt0.true) in
    adds_node k c.args.network.now c.put_node.new.self (Unscheduled j) (job_counted k j (subst (λ n. 1 ≤ n) c.requires.live some)) c.in_ok-put_node.ensures.has c.in_ok-put_node.ensures.arc

pub returns-else-live-gt0-clause-has : goal.returns-else-live-gt0-clause-has
returns-else-live-gt0-clause-has c = λ is.
    let some = job_counts c.args.knowledge.now c.args.job is in
    absurd (omega (arith, some, c.requires.live, c.if-live-gt0.false))
