use Rattle.std.proofs.Common.{◌≡◌, take, vec_len}
use Rattle.fm_lattice.specs.Blocks.{pairs_of}
use Rattle.fm_lattice.specs.inner.BlockOrder.{AreHeaded}
use Rattle.fm_lattice.proofs.blocks.shared_blocks.Given as goal

-- those before the place are shared
abbrev pub invariant-loop-at : goal.invariant-loop-at
invariant-loop-at g l = record {
  len : vec_len l.blocks ≡ vec_len l.fn.blocks;
  same : pairs_of l.blocks.items ≡ pairs_of l.fn.blocks.items;
  same_headed : AreHeaded l.blocks.items;
  pairs : pairs_of l.others.items ≡ pairs_of (take l.at l.blocks.items);
  headed : AreHeaded l.others.items;
}
