use Rattle.std.proofs.Common.{◌≡◌, ◌⊎◌, inr, true}
use Rattle.std.specs.Ordering.{nat_cmp, is_eq}
use Rattle.fm_edit.specs.Dirty.{has_id}
use Rattle.fm_edit.proofs.Values.{walked, kept_true, put_itself, has_item, came_by}
use Rattle.fm_edit.proofs.dirty.add_told.Goals as goal

pub loop-task-preserved : goal.loop-task-preserved
loop-task-preserved c =
    let xs = c.args.told.now in
    let i = c.loop-task.task-index in
    let x = c.task-item.result in
    let old = c.loop-task.tasks.keys in
    let new = c.insert.new.self.keys in
    let inv = c.loop-task.invariant in
    record {
      told = walked xs i x c.loop-task-test.true c.task-item.is
          (λ t. has_id old t ≡ true) (λ t. has_id new t ≡ true)
          (λ t h. kept_true (is_eq (nat_cmp x t)) (has_id old t) (has_id new t) (c.in_ok-insert.ensures.updates.0 t) h)
          (put_itself x (has_id old x) (has_id new x) (c.in_ok-insert.ensures.updates.0 x))
          inv.told;
      only = λ t h.
          came_by (λ q. (has_id c.args.tasks.now.keys q ≡ true) ⊎ (has_id xs q ≡ true)) x t (has_id old t) (has_id new t) (c.in_ok-insert.ensures.updates.0 t) h
          (inv.only t) (inr (has_item xs i x c.loop-task-test.true c.task-item.is));
    }
