use Rattle.std.proofs.Common.{◌≡◌, ℕ, true}
use Rattle.std.specs.Prelude.{◌||◌}
use Rattle.fm_net.specs.Nodes.{node_cmp}
use Rattle.fm_edit.specs.Dirty.{has_id}
use Rattle.fm_edit.specs.inner.Listed.{named_in, listed_at}
use Rattle.fm_edit.proofs.dirty.add_listed.Given as goal

abbrev pub invariant-loop-pair : goal.invariant-loop-pair
invariant-loop-pair l = record {
  grows : (t : ℕ) → has_id l.fn.tasks.keys t ≡ true → has_id l.tasks.keys t ≡ true;
  listed : (t : ℕ) → (has_id l.tasks.keys t || named_in l.pair-iterator t) ≡ (has_id l.fn.tasks.keys t || named_in (listed_at node_cmp l.fn.node l.index.listed.keys) t);
}
