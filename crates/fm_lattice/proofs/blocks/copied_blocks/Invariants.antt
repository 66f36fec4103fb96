use Rattle.std.proofs.Common.{◌≡◌, take}
use Rattle.fm_lattice.specs.Blocks.{pairs_of}
use Rattle.fm_lattice.specs.inner.BlockOrder.{AreHeaded}
use Rattle.fm_lattice.proofs.blocks.copied_blocks.Given as goal

abbrev pub invariant-loop-block : goal.invariant-loop-block
invariant-loop-block g l = record {
  pairs : pairs_of l.copies.items ≡ pairs_of (take l.block-index l.blocks);
  headed : AreHeaded l.copies.items;
}
