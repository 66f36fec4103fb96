use Rattle.std.proofs.Common.{◌∙◌}
use Rattle.fm_edit.specs.CacheModel.{seen_in}
use Rattle.fm_edit.proofs.Sums.{rises_on, put_step}
use Rattle.fm_edit.proofs.task_index.TaskIndex.put_back_all.Goals as goal

pub loop-task-preserved : goal.loop-task-preserved
loop-task-preserved c =
    let xs = c.args.tasks.now in
    let i = c.loop-task.task-index in
    let t = c.task-item.result in
    let inv = c.loop-task.invariant in
    record {
      rises = rises_on xs i t c.loop-task-test.true c.task-item.is inv.rises;
      counts = λ k can small sees before.
          put_step xs i t c.loop-task-test.true c.task-item.is inv.rises (seen_in c.args.seen.now) c.loop-task.self c.put_back.new.self k can sees
          small c.in_ok-put_back.ensures.lists c.in_ok-put_back.ensures.preferred c.in_ok-put_back.ensures.sums (inv.counts k can small sees before);
      taken = c.in_ok-put_back.ensures.taken ∙ inv.taken;
    }
