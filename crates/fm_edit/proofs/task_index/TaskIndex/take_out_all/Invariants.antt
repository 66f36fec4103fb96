use Rattle.std.proofs.Common.{◌≡◌, ◌+◌, ◌-◌, ◌^◌, ℕ, true, drop}
use Rattle.std.specs.Prelude.{◌&&◌, not, min}
use Rattle.std.specs.Ordering.{nat_cmp}
use Rattle.fm_records.specs.Rising.{Rises}
use Rattle.fm_records.specs.Table.{Table}
use Rattle.fm_records.specs.Ranges.{CanBe}
use Rattle.fm_edit.specs.Dirty.{has_id}
use Rattle.fm_edit.specs.CacheModel.{sight_of, seen_in}
use Rattle.fm_edit.specs.EditorState.{none_out, Counts}
use Rattle.fm_edit.proofs.task_index.TaskIndex.take_out_all.Given as goal

abbrev pub invariant-loop-task : goal.invariant-loop-task
invariant-loop-task l = record {
  rises : Rises nat_cmp (drop l.task-index l.tasks);
  within : (q : ℕ) → has_id (drop l.task-index l.tasks) q ≡ true → has_id l.tasks q ≡ true;
  counts : (k : Table) → CanBe k → seen_in l.seen ≡ sight_of k → Counts none_out k l.fn.self → Counts (λ q. has_id l.tasks q && not (has_id (drop l.task-index l.tasks) q)) k l.self;
  taken : l.self.taken ≡ min (l.fn.self.taken + l.task-index) (2 ^ 64 - 1);
}
