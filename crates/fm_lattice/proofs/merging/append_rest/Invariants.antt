use Rattle.std.proofs.Common.{◌≡◌, ◌++◌, length}
use Rattle.fm_lattice.specs.Blocks.{pairs_of}
use Rattle.fm_lattice.specs.inner.BlockOrder.{AreHeaded}
use Rattle.fm_lattice.proofs.merging.append_rest.Given as goal

abbrev pub invariant-rest : goal.invariant-rest
invariant-rest g l = record {
  headed : AreHeaded l.blocks.items;
  pairs : pairs_of l.blocks.items ++ l.rest ≡ pairs_of l.fn.blocks.items ++ l.fn.rest;
}

abbrev pub decreases-rest : goal.decreases-rest
decreases-rest g l = length l.rest
