use Rattle.std.proofs.Common.{◌∙◌, ◌≤◌, ap, add-one, subst, sym, rules}
use Rattle.std.proofs.lemmas.List.{take_all}
use Rattle.std.specs.Ordering.{nat_cmp}
use Rattle.fm_lattice.specs.Maps.{lookup}
use Rattle.fm_records.specs.Options.{or_else}
use Rattle.fm_net.specs.declared.node.Node.TheVariants.{Unscheduled}
use Rattle.fm_policy.specs.inner.NetworkSoFar.{HasNode}
use Rattle.fm_tally.proofs.Rows.{met_at}
use Rattle.fm_policy.proofs.Adds.{adds_then}
use Rattle.fm_policy.proofs.Counted.{job_counts}
use Rattle.fm_policy.proofs.Listed.{HasKey, one_more, counted_listed}
use Rattle.fm_policy.proofs.nodes.put_jobs.Goals as goal

pub put_job-requires : goal.put_job-requires
put_job-requires c =
    let j = c.entry-item.result.0 in
    let met = met_at c.pairs-jobs.result.now c.loop-entry.entry-index c.entry-item.result c.pairs-jobs.ensures.rising c.loop-entry-test.true c.entry-item.is in
    record { live = sym (ap (or_else 0) (ap (lookup nat_cmp j) (sym c.pairs-jobs.ensures.pairs) ∙ met)) ∙ c.requires.inputs.jobs j }

pub loop-entry-preserved : goal.loop-entry-preserved
loop-entry-preserved c =
    let k = c.args.knowledge.now in
    let step = c.in_ok-put_job.ensures in
    record {
      adds = adds_then k _ _ _ c.loop-entry.invariant.adds step.adds;
      all = rw add-one (one_more (λ q. HasNode k (Unscheduled q) c.loop-entry.network) (λ q. HasNode k (Unscheduled q) c.put_job.new.network)
          c.pairs-jobs.result.now c.loop-entry.entry-index c.entry-item.result c.loop-entry-test.true c.entry-item.is
          (λ q has is. step.adds.grows.nodes (Unscheduled q) (has is)) step.has c.loop-entry.invariant.all);
    }

pub returns-clause-all : goal.returns-clause-all
returns-clause-all c = λ j is.
    let all = c.pairs-jobs.result.now in
    let some = job_counts c.args.knowledge.now j is in
    let key : HasKey j all = subst (HasKey j) (sym c.pairs-jobs.ensures.pairs) (counted_listed j c.args.inputs.now.jobs (subst (λ n. 1 ≤ n) (sym (c.requires.inputs.jobs j)) some)) in
    c.loop-entry.invariant.all j (subst (HasKey j) (sym (take_all c.loop-entry.entry-index all (search rules))) key) is
