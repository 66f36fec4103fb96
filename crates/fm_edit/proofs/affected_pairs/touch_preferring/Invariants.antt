use Rattle.std.proofs.Common.{◌≡◌, ℕ, true}
use Rattle.std.specs.Prelude.{◌||◌}
use Rattle.std.specs.Ordering.{nat_cmp}
use Rattle.fm_net.specs.declared.node.Node.TheVariants.{Machine, Task}
use Rattle.fm_edit.specs.inner.Listed.{named_in, listed_at}
use Rattle.fm_edit.specs.inner.Affected.{has_pair, AffectedGrows}
use Rattle.fm_edit.proofs.affected_pairs.touch_preferring.Given as goal

abbrev pub invariant-loop-pair : goal.invariant-loop-pair
invariant-loop-pair l = record {
  grows : AffectedGrows l.fn.touched l.touched;
  same : l.touched.nodes ≡ l.fn.touched.nodes;
  has : (t : ℕ) → named_in (listed_at nat_cmp l.machine l.index.preferred.keys) t ≡ true → (has_pair l.touched (Task t) (Machine l.machine) || named_in l.pair-iterator t) ≡ true;
}
