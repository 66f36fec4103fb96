use Rattle.std.proofs.Common.{◌≡◌, ◌+◌, ◌++◌, length}
use Rattle.fm_lattice.specs.Maps.{IsRising, map_join}
use Rattle.fm_lattice.specs.Blocks.{pairs_of}
use Rattle.fm_lattice.specs.inner.BlockOrder.{AreHeaded}
use Rattle.fm_lattice.proofs.merging.merged.Given as goal

abbrev pub invariant-both : goal.invariant-both
invariant-both g l = record {
  headed : AreHeaded l.done.items;
  right_rises : IsRising g.K.Ord.cmp l.rights;
  joined : pairs_of l.done.items ++ map_join g.K.Ord.cmp g.V.Join.join l.lefts l.rights ≡ map_join g.K.Ord.cmp g.V.Join.join (pairs_of l.left) (pairs_of l.right);
}

abbrev pub decreases-both : goal.decreases-both
decreases-both g l = length l.lefts + length l.rights
