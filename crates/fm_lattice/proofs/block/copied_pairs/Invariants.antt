use Rattle.std.proofs.Common.{◌≡◌, take}
use Rattle.fm_lattice.proofs.block.copied_pairs.Given as goal

abbrev pub invariant-loop-pair : goal.invariant-loop-pair
invariant-loop-pair g l = l.copies.items ≡ take l.pair-index l.pairs.items
