use Rattle.std.proofs.Common.{◌∙◌, ◌++◌, ap}
use Rattle.std.specs.Ordering.{nat_cmp}
use Rattle.fm_records.specs.Sets.{rising}
use Rattle.fm_policy.specs.Changes.{joined_keys}
use Rattle.fm_policy.proofs.Keys.{rising_set}
use Rattle.fm_policy.proofs.stale_keys.Pending.add.Goals as goal

pub returns : goal.returns
returns c =
    let old = c.self.inside in
    let jobs = rising_set c.add_all.new.set.keys old.jobs.keys c.jobs.result.now c.len-jobs.ensures.ordered c.in_ok-add_all.ensures in
    let tasks = rising_set c.add_all-2.new.set.keys old.tasks.keys c.tasks.result.now c.len-tasks.ensures.ordered c.in_ok-add_all-2.ensures in
    let machines = rising_set c.add_all-3.new.set.keys old.machines.keys c.machines.result.now c.len-machines.ensures.ordered c.in_ok-add_all-3.ensures in
    (λ i. record { jobs = jobs i; tasks = tasks i; machines = machines i })
    ∙ (λ i. record {
      jobs = rising nat_cmp (old.jobs.keys ++ c.jobs.ensures i);
      tasks = rising nat_cmp (old.tasks.keys ++ c.tasks.ensures i);
      machines = rising nat_cmp (old.machines.keys ++ c.machines.ensures i);
    })
    ∙ ap (λ z. joined_keys z c.args.changed.now) c.self.view_is
