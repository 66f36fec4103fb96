use Rattle.std.proofs.Common.{◌≡◌, ℕ, true, cond, take}
use Rattle.std.specs.Prelude.{◌&&◌, is_some}
use Rattle.std.specs.Ordering.{nat_cmp, is_eq}
use Rattle.fm_lattice.specs.Maps.{lookup}
use Rattle.fm_edit.specs.TaskIndex.{lists_preferred}
use Rattle.fm_edit.proofs.task_index.TaskIndex.list_preferred.Given as goal

abbrev pub invariant-loop-entry : goal.invariant-loop-entry
invariant-loop-entry l = record {
  preferred : (m t : ℕ) → lists_preferred l.self m t ≡ cond (is_eq (nat_cmp l.task t) && is_some (lookup nat_cmp m (take l.entry-index l.prefer))) true (lists_preferred l.fn.self m t);
  lists : l.self.listed ≡ l.fn.self.listed;
  sums : l.self.sums ≡ l.fn.self.sums;
  taken : l.self.taken ≡ l.fn.self.taken;
}
