use Rattle.std.proofs.Common.{◌≡◌, ◌⊎◌, ℕ, true, false, drop}
use Rattle.fm_edit.specs.Dirty.{has_id}
use Rattle.fm_edit.proofs.dirty.add_told.Given as goal

abbrev pub invariant-loop-task : goal.invariant-loop-task
invariant-loop-task l = record {
  told : (t : ℕ) → has_id l.told t ≡ true → has_id (drop l.task-index l.told) t ≡ false → has_id l.tasks.keys t ≡ true;
  only : (t : ℕ) → has_id l.tasks.keys t ≡ true → (has_id l.fn.tasks.keys t ≡ true) ⊎ (has_id l.told t ≡ true);
}
