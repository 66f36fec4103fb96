use Rattle.std.proofs.Common.{◌≡◌, take}
use Rattle.fm_net.proofs.hybrid_map.cells_of.Given as goal

abbrev pub invariant-loop-key : goal.invariant-loop-key
invariant-loop-key g l = l.cells ≡ take l.key-index l.pairs
