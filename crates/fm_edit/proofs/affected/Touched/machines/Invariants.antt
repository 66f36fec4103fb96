use Rattle.std.proofs.Common.{◌≡◌, ◌⊎◌, ℕ, true, false, drop}
use Rattle.fm_net.specs.declared.node.Node.TheVariants.{Machine}
use Rattle.fm_net.specs.declared.node.Node.{Node}
use Rattle.fm_edit.specs.Dirty.{has_id}
use Rattle.fm_edit.specs.inner.Affected.{AffectedGrows, has_touched, IsNodeOf}
use Rattle.fm_edit.proofs.affected.Touched.machines.Given as goal

abbrev pub invariant-loop-machine : goal.invariant-loop-machine
invariant-loop-machine l = record {
  grows : AffectedGrows l.fn.self l.self;
  touches : (x : ℕ) → has_id l.machines x ≡ true → has_id (drop l.machine-index l.machines) x ≡ false → has_touched l.self (Machine x) ≡ true;
  only : (n : Node) → has_touched l.self n ≡ true → (has_touched l.fn.self n ≡ true) ⊎ IsNodeOf Machine l.machines n;
  pairs : l.self.pairs ≡ l.fn.self.pairs;
}
