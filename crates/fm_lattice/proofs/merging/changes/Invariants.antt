use Rattle.std.proofs.Common.{◌≡◌, ◌++◌, map, length, vec_len}
use Rattle.fm_lattice.specs.inner.JoinedPairs.{joined_pair}
use Rattle.fm_lattice.specs.Blocks.{pairs_of}
use Rattle.fm_lattice.specs.inner.BlockOrder.{AreHeaded, HaveSpares, GoToOwned}
use Rattle.fm_lattice.proofs.merging.changes.Given as goal

abbrev pub invariant-rest : goal.invariant-rest
invariant-rest g l = record {
  left_pairs : pairs_of l.left.items ≡ pairs_of l.fn.left.items;
  left_headed : AreHeaded l.left.items;
  left_len : vec_len l.left ≡ vec_len l.fn.left;
  pairs : map (λ c. c.0) l.changes.items ++ map (joined_pair g.K.Ord.cmp g.V.Join.join (pairs_of l.fn.left.items)) l.rest ≡ map (joined_pair g.K.Ord.cmp g.V.Join.join (pairs_of l.fn.left.items)) (pairs_of l.right);
  spares : HaveSpares g.K.Ord.cmp 2 (pairs_of l.fn.left.items) l.changes.items;
  owned : GoToOwned g.K.Ord.cmp l.left.items l.changes.items;
}

abbrev pub decreases-rest : goal.decreases-rest
decreases-rest g l = length l.rest
