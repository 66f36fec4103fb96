use Rattle.std.proofs.Common.{◌≡◌, ◌+◌, length}
use Rattle.fm_lattice.specs.Maps.{IsRising, map_join}
use Rattle.fm_lattice.specs.Blocks.{pairs_of}
use Rattle.fm_lattice.proofs.merging.is_below.Given as goal

-- the rest of the left is below the rest of the right exactly if the left is below the right
abbrev pub invariant-both : goal.invariant-both
invariant-both g l = record {
  right_rises : IsRising g.K.Ord.cmp l.rights;
  left_below : (map_join g.K.Ord.cmp g.V.Join.join (pairs_of l.left) (pairs_of l.right) ≡ pairs_of l.right) → map_join g.K.Ord.cmp g.V.Join.join l.lefts l.rights ≡ l.rights;
  rest_below : (map_join g.K.Ord.cmp g.V.Join.join l.lefts l.rights ≡ l.rights) → map_join g.K.Ord.cmp g.V.Join.join (pairs_of l.left) (pairs_of l.right) ≡ pairs_of l.right;
}

abbrev pub decreases-both : goal.decreases-both
decreases-both g l = length l.lefts + length l.rights
