use Rattle.std.proofs.Common.{◌∙◌}
use Rattle.fm_edit.specs.CacheModel.{seen_in}
use Rattle.fm_edit.proofs.Values.{also_counted}
use Rattle.fm_edit.proofs.Sums.{rises_on, within_on, take_step}
use Rattle.fm_edit.proofs.task_index.TaskIndex.take_out_all.Goals as goal

pub loop-task-preserved : goal.loop-task-preserved
loop-task-preserved c =
    let xs = c.args.tasks.now in
    let i = c.loop-task.task-index in
    let t = c.task-item.result in
    let inv = c.loop-task.invariant in
    record {
      rises = rises_on xs i t c.loop-task-test.true c.task-item.is inv.rises;
      within = within_on xs i t c.loop-task-test.true c.task-item.is inv.rises inv.within;
      counts = λ k can sees before.
          take_step xs i t c.loop-task-test.true c.task-item.is inv.rises (seen_in c.args.seen.now) c.loop-task.self c.take_out.new.self k can sees
          inv.within c.in_ok-take_out.ensures.lists c.in_ok-take_out.ensures.preferred c.in_ok-take_out.ensures.sums (inv.counts k can sees before);
      taken = c.in_ok-take_out.ensures.taken ∙ also_counted c.args.self.now.taken i c.loop-task.self.taken inv.taken;
    }
