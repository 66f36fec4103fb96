use Rattle.std.proofs.Common.{◌≡◌, ◌≤◌, ◌<◌, ◌+◌, map, length, vec_len, vec_capacity}
use Rattle.std.specs.Vec.Iter.{into_iter_items, into_iter_len}
use Rattle.fm_lattice.specs.Maps.{map_join, keep_new, IsRising}
use Rattle.fm_lattice.specs.Blocks.{pairs_of}
use Rattle.fm_lattice.specs.inner.BlockOrder.{AreHeaded, HaveSpares, GoToOwned}
use Rattle.fm_lattice.proofs.merging.apply.Given as goal

abbrev pub invariant-loop-key : goal.invariant-loop-key
invariant-loop-key g l = record {
  some : 0 < vec_len l.blocks;
  headed : AreHeaded l.blocks.items;
  rises : IsRising g.K.Ord.cmp (pairs_of l.blocks.items);
  spares : HaveSpares g.K.Ord.cmp 2 (pairs_of l.blocks.items) (into_iter_items l.key-iterator);
  owned : GoToOwned g.K.Ord.cmp l.blocks.items (into_iter_items l.key-iterator);
  room : vec_len l.blocks + into_iter_len l.key-iterator ≤ vec_capacity l.blocks;
  done : map_join g.K.Ord.cmp keep_new (pairs_of l.blocks.items) (map (λ c. c.0) (into_iter_items l.key-iterator)) ≡ map_join g.K.Ord.cmp keep_new (pairs_of l.fn.blocks.items) (map (λ c. c.0) l.fn.changes.items);
  counted : length (pairs_of l.blocks.items) ≡ length (pairs_of l.fn.blocks.items) + l.added;
  few : l.added + into_iter_len l.key-iterator ≤ vec_len l.fn.changes;
}
