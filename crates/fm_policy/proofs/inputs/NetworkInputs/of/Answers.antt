use Rattle.std.proofs.Common.{◌≡◌, ◌∙◌, ap, subst}
use Rattle.std.specs.List.{filter_map}
use Rattle.std.specs.Ordering.{nat_cmp}
use Rattle.fm_lattice.specs.Maps.{IsRising}
use Rattle.fm_records.specs.Sets.{rising}
use Rattle.fm_tally.proofs.JobCounting.{tasks_are_rows}
use Rattle.fm_tally.proofs.Rows.{rows}
use Rattle.fm_tally.specs.Tallies.{task_at}
use Rattle.fm_policy.specs.inner.Inputs.{waiting_request}
use Rattle.fm_policy.proofs.Counted.{requests_are}
use Rattle.fm_policy.proofs.inputs.NetworkInputs.of.Goals as goal

pub returns : goal.returns
returns c =
    let k = c.args.knowledge.now in
    let tasks = c.in_ok-tally.tally.tasks in
    let are : tasks ≡ rows (task_at k) k.tasks = tasks_are_rows k tasks c.law_can_be.ensures.table.tasks.rising (subst (IsRising nat_cmp) c.pairs.ensures.pairs c.pairs.ensures.rising) c.in_ok-tally.ensures.tasks in
    record {
      tally = c.in_ok-tally.ensures;
      requests = λ r. requests_are k r tasks are c.in_ok-requests.requests.items (c.in_ok-requests.ensures ∙ ap (λ xs. rising nat_cmp (filter_map waiting_request xs)) c.pairs.ensures.pairs);
      jobs = c.in_ok-jobs.ensures;
    }
