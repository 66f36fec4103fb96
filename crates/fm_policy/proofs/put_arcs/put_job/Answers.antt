use Rattle.std.proofs.Common.{◌∙◌, ◌≤◌, Some, arith, ap, subst, sym}
use Rattle.std.specs.Prelude.{is_some}
use Rattle.fm_policy.proofs.Counted.{job_counted, job_counts}
use Rattle.fm_policy.proofs.Parts.{job_to_sink}
use Rattle.fm_policy.proofs.put_arcs.put_job.Goals as goal

pub put-requires-clause-arc : goal.put-requires-clause-arc
put-requires-clause-arc c =
    let k = c.args.knowledge.now in
    let j = c.args.job in
    let some : 1 ≤ c.args.live = omega (arith, c.if-live-gt0.true) in
    ap (λ n. Some (n, 0)) c.requires.live ∙ sym (job_to_sink k j (job_counted k j (subst (λ n. 1 ≤ n) c.requires.live some)))

pub returns-else-live-gt0-clause-covers : goal.returns-else-live-gt0-clause-covers
returns-else-live-gt0-clause-covers c = λ is.
    let some = job_counts c.args.knowledge.now c.args.job is in
    absurd (omega (arith, some, c.requires.live, c.if-live-gt0.false))

pub returns-in_ok-put-clause-covers : goal.returns-in_ok-put-clause-covers
returns-in_ok-put-clause-covers c = λ is. c.in_ok-put.ensures.covers (ap is_some (job_to_sink c.args.knowledge.now c.args.job is))
