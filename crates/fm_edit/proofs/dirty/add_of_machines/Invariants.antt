use Rattle.std.proofs.Common.{◌≡◌, ◌⊎◌, ◌<◌, ◌^◌, ℕ, true, false, drop}
use Rattle.fm_net.specs.declared.node.Node.TheVariants.{Machine}
use Rattle.fm_edit.specs.Dirty.{has_id}
use Rattle.fm_edit.specs.TaskIndex.{lists}
use Rattle.fm_edit.specs.inner.TaskIndexParts.{ListsAtOne}
use Rattle.fm_edit.proofs.dirty.add_of_machines.Given as goal

abbrev pub invariant-loop-machine : goal.invariant-loop-machine
invariant-loop-machine l = record {
  grows : (t : ℕ) → has_id l.fn.tasks.keys t ≡ true → has_id l.tasks.keys t ≡ true;
  listed : (x t : ℕ) → has_id l.machines x ≡ true → has_id (drop l.machine-index l.machines) x ≡ false → t < 2 ^ 128 → lists l.index (Machine x) t ≡ true → has_id l.tasks.keys t ≡ true;
  only : (t : ℕ) → has_id l.tasks.keys t ≡ true → (has_id l.fn.tasks.keys t ≡ true) ⊎ ListsAtOne l.index Machine l.machines t;
}
