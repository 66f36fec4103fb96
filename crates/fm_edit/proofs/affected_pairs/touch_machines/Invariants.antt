use Rattle.std.proofs.Common.{◌≡◌, ℕ, true, false}
use Rattle.std.specs.Prelude.{is_some}
use Rattle.std.specs.Ordering.{nat_cmp}
use Rattle.std.specs.BTreeMap.{get}
use Rattle.fm_lattice.specs.Maps.{lookup}
use Rattle.fm_net.specs.declared.node.Node.TheVariants.{Machine}
use Rattle.fm_edit.specs.inner.Affected.{has_pair, AffectedGrows}
use Rattle.fm_edit.proofs.affected_pairs.touch_machines.Given as goal

abbrev pub invariant-loop-machine : goal.invariant-loop-machine
invariant-loop-machine l = record {
  grows : AffectedGrows l.fn.touched l.touched;
  same : l.touched.nodes ≡ l.fn.touched.nodes;
  has : (m : ℕ) → is_some (get nat_cmp l.seen.machines m) ≡ true → is_some (lookup nat_cmp m l.machine-iterator.iter) ≡ false → has_pair l.touched l.request (Machine m) ≡ true;
}
