use Rattle.std.proofs.Common.{◌≡◌, ℕ, false, map, ◌++◌, take, drop}
use Rattle.std.specs.Ordering.{nat_cmp}
use Rattle.std.specs.BTreeMap.{get}
use Rattle.fm_lattice.specs.Maps.{lookup}
use Rattle.fm_edit.specs.Dirty.{has_id}
use Rattle.fm_edit.specs.declared.look.Key.TheVariants as key
use Rattle.fm_edit.proofs.cache_updates.see_tasks.Given as goal

abbrev pub invariant-loop-task : goal.invariant-loop-task
invariant-loop-task g l = record {
  seen : (q : ℕ) → has_id (drop l.task-index l.changed) q ≡ false → get nat_cmp l.tasks q ≡ lookup nat_cmp q (g.L.Look.table l.fn.look).tasks;
  keys : g.L.Look.keys l.look ≡ g.L.Look.keys l.fn.look ++ map key.Task (take l.task-index l.changed);
  same : g.L.Look.table l.look ≡ g.L.Look.table l.fn.look;
}
