use Rattle.std.proofs.Common.{◌∙◌, ◌+◌, ap, refl}
use Rattle.fm_records.specs.Options.{or_else}
use Rattle.fm_tally.specs.JobCounts.{job_count}
use Rattle.fm_tally.proofs.Each.{counted}
use Rattle.fm_tally.proofs.job_counts.count.Goals as goal

pub returns-in-Some : goal.returns-in-Some
returns-in-Some c j =
    let before = c.args.counts.now in
    ap (λ es. job_count es j) c.replace.ensures
    ∙ counted c.args.job _ before c.index_near.ensures.rising (ap (λ o. or_else 0 o + 1) c.value-before.ensures) j

pub returns-in_ok-put-in-None : goal.returns-in_ok-put-in-None
returns-in_ok-put-in-None c j =
    let before = c.args.counts.now in
    ap (λ es. job_count es j) c.in_ok-put-in-None.ensures.ok
    ∙ counted c.args.job 1 before c.index_near.ensures.rising (ap (λ o. or_else 0 o + 1) (c.in-None.ensures.absent refl)) j
