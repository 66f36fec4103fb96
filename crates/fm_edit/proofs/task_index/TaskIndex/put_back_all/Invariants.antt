use Rattle.std.proofs.Common.{◌≡◌, ◌<◌, ◌^◌, drop, length}
use Rattle.std.specs.Ordering.{nat_cmp}
use Rattle.fm_records.specs.Rising.{Rises}
use Rattle.fm_records.specs.Table.{Table}
use Rattle.fm_records.specs.Ranges.{CanBe}
use Rattle.fm_edit.specs.Dirty.{has_id}
use Rattle.fm_edit.specs.CacheModel.{sight_of, seen_in}
use Rattle.fm_edit.specs.EditorState.{Counts}
use Rattle.fm_edit.proofs.task_index.TaskIndex.put_back_all.Given as goal

abbrev pub invariant-loop-task : goal.invariant-loop-task
invariant-loop-task l = record {
  rises : Rises nat_cmp (drop l.task-index l.tasks);
  counts : (k : Table) → CanBe k → length k.tasks < 2 ^ 63 → seen_in l.seen ≡ sight_of k → Counts (has_id l.tasks) k l.fn.self → Counts (has_id (drop l.task-index l.tasks)) k l.self;
  taken : l.self.taken ≡ l.fn.self.taken;
}
