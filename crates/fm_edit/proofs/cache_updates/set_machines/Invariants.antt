use Rattle.std.proofs.Common.{◌≡◌, ℕ, false, Option, drop}
use Rattle.std.specs.Ordering.{nat_cmp}
use Rattle.std.specs.BTreeMap.{get}
use Rattle.fm_records.specs.Table.{MachineValue}
use Rattle.fm_edit.specs.inner.CachedValues.{has_value, AreValuesOf}
use Rattle.fm_edit.proofs.cache_updates.set_machines.Given as goal

abbrev pub invariant-loop-machine : goal.invariant-loop-machine
invariant-loop-machine l = (f : ℕ → Option MachineValue) → AreValuesOf f l.values →
    ((q : ℕ) → has_value l.values q ≡ false → get nat_cmp l.fn.machines q ≡ f q) → AreValuesOf f (drop l.machine-index l.values)
    × ((q : ℕ) → has_value (drop l.machine-index l.values) q ≡ false → get nat_cmp l.machines q ≡ f q)
