use Rattle.std.proofs.Common.{◌≡◌, map, ◌++◌, take}
use Rattle.std.specs.Ordering.{nat_cmp}
use Rattle.fm_lattice.specs.Maps.{lookup}
use Rattle.fm_edit.specs.declared.look.Key.TheVariants as key
use Rattle.fm_edit.specs.inner.CachedValues.{values_at}
use Rattle.fm_edit.proofs.cache_updates.machines_now.Given as goal

abbrev pub invariant-loop-machine : goal.invariant-loop-machine
invariant-loop-machine g l = record {
  values : l.values.items ≡ values_at (λ m. lookup nat_cmp m (g.L.Look.table l.fn.look).machines) (take l.machine-index l.machines);
  keys : g.L.Look.keys l.look ≡ g.L.Look.keys l.fn.look ++ map key.Machine (take l.machine-index l.machines);
  same : g.L.Look.table l.look ≡ g.L.Look.table l.fn.look;
}
