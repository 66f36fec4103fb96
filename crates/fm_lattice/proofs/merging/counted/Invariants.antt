use Rattle.std.proofs.Common.{◌≡◌, length, take}
use Rattle.fm_lattice.specs.Blocks.{pairs_of}
use Rattle.fm_lattice.proofs.merging.counted.Given as goal

abbrev pub invariant-loop-block : goal.invariant-loop-block
invariant-loop-block g l = l.count ≡ length (pairs_of (take l.block-index l.blocks))
