use Rattle.std.proofs.Common.{◌≡◌, ◌⊎◌, ◌<◌, ◌^◌, ℕ, true, false, drop}
use Rattle.fm_net.specs.declared.node.Node.TheVariants.{Unscheduled}
use Rattle.fm_edit.specs.Dirty.{has_id}
use Rattle.fm_edit.specs.TaskIndex.{lists}
use Rattle.fm_edit.specs.inner.TaskIndexParts.{ListsAtOne}
use Rattle.fm_edit.proofs.dirty.add_of_jobs.Given as goal

abbrev pub invariant-loop-job : goal.invariant-loop-job
invariant-loop-job l = record {
  grows : (t : ℕ) → has_id l.fn.tasks.keys t ≡ true → has_id l.tasks.keys t ≡ true;
  listed : (x t : ℕ) → has_id l.jobs x ≡ true → has_id (drop l.job-index l.jobs) x ≡ false → t < 2 ^ 128 → lists l.index (Unscheduled x) t ≡ true → has_id l.tasks.keys t ≡ true;
  only : (t : ℕ) → has_id l.tasks.keys t ≡ true → (has_id l.fn.tasks.keys t ≡ true) ⊎ ListsAtOne l.index Unscheduled l.jobs t;
}
