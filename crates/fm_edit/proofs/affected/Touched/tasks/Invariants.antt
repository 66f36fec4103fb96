use Rattle.std.proofs.Common.{◌≡◌, ◌⊎◌, ℕ, true, false, drop}
use Rattle.fm_net.specs.declared.node.Node.{Node}
use Rattle.fm_net.specs.declared.node.Node.TheVariants.{Task}
use Rattle.fm_edit.specs.Dirty.{has_id}
use Rattle.fm_edit.specs.CacheModel.{seen_in}
use Rattle.fm_edit.specs.inner.Affected.{AffectedGrows, TouchesTask, has_touched, has_pair, IsNodeOf, IsEndOf}
use Rattle.fm_edit.proofs.affected.Touched.tasks.Given as goal

abbrev pub invariant-loop-task : goal.invariant-loop-task
invariant-loop-task l = record {
  grows : AffectedGrows l.fn.self l.self;
  touches : (t : ℕ) → has_id l.tasks t ≡ true → has_id (drop l.task-index l.tasks) t ≡ false → TouchesTask (seen_in l.seen) t l.self;
  only : (n : Node) → has_touched l.self n ≡ true → (has_touched l.fn.self n ≡ true) ⊎ IsEndOf (seen_in l.seen) l.tasks n;
  starts : (a b : Node) → has_pair l.self a b ≡ true → (has_pair l.fn.self a b ≡ true) ⊎ IsNodeOf Task l.tasks a;
}
