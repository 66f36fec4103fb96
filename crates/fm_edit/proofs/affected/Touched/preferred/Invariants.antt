use Rattle.std.proofs.Common.{◌≡◌, ◌⊎◌, ℕ, true, take}
use Rattle.std.specs.Prelude.{is_some}
use Rattle.std.specs.Ordering.{nat_cmp}
use Rattle.fm_lattice.specs.Maps.{lookup}
use Rattle.fm_net.specs.declared.node.Node.{Node}
use Rattle.fm_net.specs.declared.node.Node.TheVariants.{Machine, Task}
use Rattle.fm_edit.specs.inner.Affected.{AffectedGrows, has_pair}
use Rattle.fm_edit.proofs.affected.Touched.preferred.Given as goal

abbrev pub invariant-loop-entry : goal.invariant-loop-entry
invariant-loop-entry l = record {
  grows : AffectedGrows l.fn.self l.self;
  has : (m : ℕ) → is_some (lookup nat_cmp m (take l.entry-index l.prefer)) ≡ true → has_pair l.self (Task l.task) (Machine m) ≡ true;
  nodes : l.self.nodes ≡ l.fn.self.nodes;
  starts : (a b : Node) → has_pair l.self a b ≡ true → (has_pair l.fn.self a b ≡ true) ⊎ (Task l.task ≡ a);
}
